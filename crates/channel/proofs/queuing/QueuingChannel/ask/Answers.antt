use Rattle.std.proofs.Common.{IfErr, rules}
use Rattle.std.proofs.lemmas.Result.{IfErr-weaker}
use Rattle.apex_machine.specs.Demands.{answer_demands}
use Rattle.channel.proofs.QueuedCalls.{asked_refused}
use Rattle.channel.proofs.queuing.QueuingChannel.ask.Goals as goal
use Rattle.wait_set.specs.Actors.{Refuses}
use Rattle.wait_set.specs.Givens.{answer_given}

pub returns-clause-refused : goal.returns-clause-refused
returns-clause-refused c =
    let queue = c.args.self.now.queue in
    let given = answer_given c.in-Some.given in
    let fails : IfErr c.map_err.result (Refuses (answer_demands given c.args.claim.now)) = search rules in
    IfErr-weaker c.map_err.result _ _
    (λ fault. asked_refused c.args.self.now.source c.args.self.now.destination c.args.part queue c.args.claim.now given fault (search rules)) fails
