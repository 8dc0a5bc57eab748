-- The mutex that a search finds is the first that the process owns.
use Rattle.std.proofs.Common.{rules, tests}
use Rattle.std.proofs.lemmas.Iterator.Consumers.{YieldsList-from_rest}
use Rattle.std.proofs.lemmas.Iterator.Search.{find_from_yields_List}
use Rattle.apex_machine.specs.Arguments.{natural_of}
use Rattle.partition_state.proofs.MutexOwners.{found-owned, is_owned}
use Rattle.partition_state.proofs.state.PartitionState.mutex_owned.Goals as goal

pub returns-in-Some : goal.returns-in-Some
returns-in-Some c =
    let process = natural_of c.args.process in
    let found = find_from_yields_List (is_owned process) _ _ c.find-owned.result c.find-owned.ensures.ran (YieldsList-from_rest _ c.iter.ensures.rest)
    (λ x b q k. search (rules, tests)) in
    rw (← c.self.view_is, c.from.ensures) (rw c.in-Some.is at (found-owned process c.self.inside.mutexes _ _ found))

pub returns-in-None : goal.returns-in-None
returns-in-None c =
    let process = natural_of c.args.process in
    let found = find_from_yields_List (is_owned process) _ _ c.find-owned.result c.find-owned.ensures.ran (YieldsList-from_rest _ c.iter.ensures.rest)
    (λ x b q k. search (rules, tests)) in
    rw (← c.self.view_is) (rw c.in-None.is at (found-owned process c.self.inside.mutexes _ _ found))
