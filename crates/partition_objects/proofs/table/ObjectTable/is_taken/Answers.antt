use Rattle.std.proofs.Common.{rules, tests, sym, ◌∙◌}
use Rattle.std.proofs.lemmas.Iterator.Consumers.{YieldsList-from_rest}
use Rattle.std.proofs.lemmas.Iterator.Search.{any_from_yields_List}
use Rattle.std.specs.Str.{bytes_eq}
use Rattle.partition_objects.proofs.Tables.{is_taken-any}
use Rattle.partition_objects.proofs.table.ObjectTable.is_taken.Goals as goal

pub returns : goal.returns
returns g c =
    let name_of = g.Object.Named.name_of in
    rw (← c.self.view_is)
    (any_from_yields_List (λ object. bytes_eq c.args.name.now (name_of object)) _ _ _ c.any.ensures.ran (YieldsList-from_rest _ c.values.ensures.rest) (λ x b q k. search (rules, tests))
    ∙ sym (is_taken-any name_of c.args.name.now c.self.inside.objects.entries))
