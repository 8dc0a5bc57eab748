-- An error that the handler takes is put into the list.
use Rattle.std.proofs.Common.{sym, ◌∙◌}
use Rattle.partition_state.proofs.Takers.{is_listed, not_listed}
use Rattle.partition_state.proofs.state.PartitionState.list.Goals as goal

pub returns-then-not-takes-clause-ok : goal.returns-then-not-takes-clause-ok
returns-then-not-takes-clause-ok c = not_listed c.args.self.now _ (sym c.takes.ensures ∙ c.if-not-takes.true)

pub returns-clause-ok : goal.returns-clause-ok
returns-clause-ok c = is_listed c.args.self.now _ _ _ c.self.view_is (sym c.takes.ensures ∙ c.if-not-takes.false) c.in_ok-add_listed.ensures.ok
