use Rattle.std.proofs.Common.{length, ap, arith}
use Rattle.order_run.proofs.Onward.{all_found, all_met, none_found, some_refused}
use Rattle.order_run.proofs.run.Run.proposal.Goals as goal

pub returns-in-Some-clause-verdict : goal.returns-in-Some-clause-verdict
returns-in-Some-clause-verdict c = λ configuration requirements pairs before put empty.
    some_refused configuration requirements before c.in-Some.refused c.args.self.now.broken c.args.self.now.base.kept (rw c.in-Some.is at put.tested)

pub returns-in-Some-clause-order : goal.returns-in-Some-clause-order
returns-in-Some-clause-order c = λ configuration requirements pairs before put empty.
    none_found configuration before c.args.self.now.base c.in-Some.refused (rw c.in-Some.is at put.judged)

pub returns-in-None-clause-verdict : goal.returns-in-None-clause-verdict
returns-in-None-clause-verdict c = λ configuration requirements pairs before put empty.
    all_met configuration requirements before c.args.self.now.base c.args.self.now.broken c.place.result (rw c.in-None.is at put.judged) (rw c.in-None.is at put.tested)
    (omega (arith, c.place.ensures, put.place, ap length empty))

pub returns-in-None-clause-order : goal.returns-in-None-clause-order
returns-in-None-clause-order c = λ configuration requirements pairs before put empty.
    all_found configuration before c.args.self.now.base c.place.result (rw c.in-None.is at put.judged) (omega (arith, c.place.ensures, put.place, ap length empty))
