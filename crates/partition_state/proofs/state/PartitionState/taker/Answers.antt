-- Who takes an error is the partition's handler.
use Rattle.std.proofs.Common.{sym, ◌∙◌}
use Rattle.partition_state.proofs.Takers.{none_takes, taken_by}
use Rattle.partition_state.proofs.state.PartitionState.taker.Goals as goal

pub returns-then-takes-clause-some : goal.returns-then-takes-clause-some
returns-then-takes-clause-some c = taken_by c.args.self.now c.args.process c.handler.result c.handler.ensures (sym c.takes.ensures ∙ c.if-takes.true)

pub returns-then-takes-clause-none : goal.returns-then-takes-clause-none
returns-then-takes-clause-none c = none_takes c.args.self.now c.args.process c.handler.result c.handler.ensures (sym c.takes.ensures ∙ c.if-takes.true)
