use Rattle.user_rules.specs.Rules.{relations_of}
use Rattle.verdict_merge.proofs.RoundPieces.{judged_in_round}
use Rattle.verdict_merge.proofs.job.Job.run_by_threads.Goals as goal

pub invariant_of-result : goal.invariant_of-result
invariant_of-result g c = (
  c.self.invariant.0,
  judged_in_round g.J.Naming.round c.self.inside.lent (relations_of c.args.rules.now) c.self.inside.number c.self.inside.piece c.in-Ok.judged c.self.invariant.3 c.requires c.self.invariant.1 c.in-Ok.ensures,
)

pub returns-in-Ok-clause-judged : goal.returns-in-Ok-clause-judged
returns-in-Ok-clause-judged g c = (invariant_of-result g c).1
