use Rattle.std.proofs.Common.{rules, tests, sym, ◌∙◌}
use Rattle.std.proofs.lemmas.Iterator.Consumers.{YieldsList-from_rest}
use Rattle.std.proofs.lemmas.Iterator.Search.{any_from_yields_List}
use Rattle.apex_machine.specs.Arguments.{natural_of}
use Rattle.partition_state.proofs.MutexOwners.{is_owned, owns_mutex-any}
use Rattle.partition_state.proofs.state.PartitionState.numbered_owns_mutex.Goals as goal

pub returns : goal.returns
returns c =
    rw (← c.self.view_is)
    (any_from_yields_List (is_owned (natural_of c.args.process)) _ _ _ c.any.ensures.ran (YieldsList-from_rest _ c.iter.ensures.rest) (λ x b q k. search (rules, tests))
    ∙ sym (owns_mutex-any (natural_of c.args.process) c.self.inside.mutexes))
