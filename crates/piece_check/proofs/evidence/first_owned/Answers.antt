-- The first mutex that a search finds is the first of which the test holds.
use Rattle.std.proofs.Common.{Bool, rules, tests, ◌∙◌}
use Rattle.std.proofs.lemmas.Iterator.Consumers.{YieldsList-from_rest}
use Rattle.std.proofs.lemmas.Iterator.Search.{find_from_yields_List}
use Rattle.apex_machine.specs.Objects.{is_owner}
use Rattle.apex_machine.specs.State.{Mutex}
use Rattle.piece_check.proofs.Shown.{first_is}
use Rattle.piece_check.proofs.evidence.first_owned.Goals as goal

pub returns-in_err-number : goal.returns-in_err-number
returns-in_err-number c =
    let test : Mutex → Bool = λ mutex. is_owner mutex.owner c.args.process in
    let found = find_from_yields_List (λ entry. test entry.1) _ _ c.find.result c.find.ensures.ran (YieldsList-from_rest _ c.iter.ensures.rest)
    (λ x b q k. search (rules, tests)) in
    c.from_residual.ensures ∙ rw c.in_err-number.was at (first_is test c.args.mutexes.now _ _ found)

pub returns : goal.returns
returns c =
    let test : Mutex → Bool = λ mutex. is_owner mutex.owner c.args.process in
    let found = find_from_yields_List (λ entry. test entry.1) _ _ c.find.result c.find.ensures.ran (YieldsList-from_rest _ c.iter.ensures.rest)
    (λ x b q k. search (rules, tests)) in
    rw c.in_ok-number.was at (first_is test c.args.mutexes.now _ _ found)
