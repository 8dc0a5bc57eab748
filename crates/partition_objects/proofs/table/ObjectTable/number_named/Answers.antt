-- The first entry that a search finds is the first that has the name.
use Rattle.std.proofs.Common.{rules, tests, ◌∙◌}
use Rattle.std.proofs.lemmas.Iterator.Consumers.{YieldsList-from_rest}
use Rattle.std.proofs.lemmas.Iterator.Search.{find_from_yields_List}
use Rattle.std.specs.Str.{bytes_eq}
use Rattle.partition_objects.proofs.Tables.{found-named}
use Rattle.partition_objects.proofs.table.ObjectTable.number_named.Goals as goal

pub returns-in_err-number : goal.returns-in_err-number
returns-in_err-number g c =
    let name_of = g.Object.Named.name_of in
    let name = c.args.name.now in
    let found = find_from_yields_List (λ entry. bytes_eq name (name_of entry.1)) _ _ c.find.result c.find.ensures.ran (YieldsList-from_rest _ c.iter.ensures.rest)
    (λ x b q k. search (rules, tests)) in
    c.from_residual.ensures ∙ rw c.in_err-number.was at (found-named name_of name c.args.self.now _ _ found)

pub returns : goal.returns
returns g c =
    let name_of = g.Object.Named.name_of in
    let name = c.args.name.now in
    let found = find_from_yields_List (λ entry. bytes_eq name (name_of entry.1)) _ _ c.find.result c.find.ensures.ran (YieldsList-from_rest _ c.iter.ensures.rest)
    (λ x b q k. search (rules, tests)) in
    rw c.in_ok-number.was at (found-named name_of name c.args.self.now _ _ found)
