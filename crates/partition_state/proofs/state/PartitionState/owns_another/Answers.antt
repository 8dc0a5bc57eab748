use Rattle.std.proofs.Common.{rules, tests, sym, ◌∙◌}
use Rattle.std.proofs.lemmas.Iterator.Consumers.{YieldsList-from_rest}
use Rattle.std.proofs.lemmas.Iterator.Search.{any_from_yields_List}
use Rattle.partition_state.proofs.MutexOwners.{is_other, owns_another-any}
use Rattle.partition_state.proofs.state.PartitionState.owns_another.Goals as goal

pub returns : goal.returns
returns c =
    rw (← c.self.view_is)
    (any_from_yields_List (is_other c.args.mutex c.args.process) _ _ _ c.any.ensures.ran (YieldsList-from_rest _ c.iter.ensures.rest) (λ x b q k. search (rules, tests))
    ∙ sym (owns_another-any c.args.mutex c.args.process c.self.inside.mutexes))
