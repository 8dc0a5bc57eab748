use Rattle.std.proofs.Common.{ap}
use Rattle.apex_machine.specs.Waiting.{is_waiting}
use Rattle.wait_set.proofs.Leaving.{joined-waiting}
use Rattle.wait_set.proofs.set.WaitSet.settle.Goals as goal

pub returns-in-Waits-clause-ok : goal.returns-in-Waits-clause-ok
returns-in-Waits-clause-ok c =
    rw (joined-waiting c.args.actor c.args.claim.now c.args.message.now c.args.self.now.entries c.in-Waits.is
    (c.requires.alone (ap is_waiting c.in-Waits.is)))
    c.join.ensures.ok
