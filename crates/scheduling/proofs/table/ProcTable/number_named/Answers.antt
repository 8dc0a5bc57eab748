-- The first process that a search finds is the first that has the name.
use Rattle.std.proofs.Common.{rules, tests, ◌∙◌}
use Rattle.std.proofs.lemmas.Iterator.Consumers.{YieldsList-from_rest}
use Rattle.std.proofs.lemmas.Iterator.Search.{find_from_yields_List}
use Rattle.std.specs.Str.{bytes_eq}
use Rattle.scheduling.proofs.Searches.{found-named}
use Rattle.scheduling.proofs.table.ProcTable.number_named.Goals as goal

pub returns-in_err-number : goal.returns-in_err-number
returns-in_err-number c =
    let name = c.args.name.now in
    let found = find_from_yields_List (λ entry. bytes_eq name entry.1.name) _ _ c.find.result c.find.ensures.ran (YieldsList-from_rest _ c.iter.ensures.rest)
    (λ x b q k. search (rules, tests)) in
    rw (← c.self.view_is) (c.from_residual.ensures ∙ rw c.in_err-number.was at (found-named name c.self.inside.processes.entries _ _ found))

pub returns : goal.returns
returns c =
    let name = c.args.name.now in
    let found = find_from_yields_List (λ entry. bytes_eq name entry.1.name) _ _ c.find.result c.find.ensures.ran (YieldsList-from_rest _ c.iter.ensures.rest)
    (λ x b q k. search (rules, tests)) in
    rw (← c.self.view_is) (rw c.in_ok-number.was at (found-named name c.self.inside.processes.entries _ _ found))
