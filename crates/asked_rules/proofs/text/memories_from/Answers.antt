use Rattle.std.proofs.Common.{◌∙◌, Ok, ap, arith, subst, sym}
use Rattle.toml.specs.View.{view, items_view}
use Rattle.asked_rules.specs.Keys.{Builds}
use Rattle.asked_rules.specs.Memories.{memory_in, said_memory}
use Rattle.asked_rules.specs.Reading.{first_items, of_memory}
use Rattle.asked_rules.proofs.Above.{items_above}
use Rattle.asked_rules.proofs.Fronts.{all_read, memory_built, one_more, one_refused}
use Rattle.asked_rules.proofs.text.memories_from.Goals as goal

pub loop-number-preserved : goal.loop-number-preserved
loop-number-preserved c =
    let number = c.loop-number.number in
    let item = c.index-items-number.result in
    let above = items_above number c.args.items.now in
    one_more said_memory (λ place value. of_memory place (memory_in (first_items place (items_view c.args.items.now)) value)) c.args.items.now number
    c.loop-number.memories c.added-memories.result item c.in-Ok.memory c.loop-number.invariant (omega arith) c.index-items-number.is
    (memory_built said_memory number c.in-Ok.memory (memory_in (first_items number (items_view c.args.items.now)) (view item))
    (subst (λ tables. Builds said_memory (Ok c.in-Ok.memory) (memory_in tables (view item))) above c.in-Ok.ensures)) c.added-memories.ensures

pub returns-in-Err : goal.returns-in-Err
returns-in-Err c =
    let number = c.loop-number.number in
    let item = c.index-items-number.result in
    let above = items_above number c.args.items.now in
    one_refused said_memory (λ place value. of_memory place (memory_in (first_items place (items_view c.args.items.now)) value)) c.args.items.now number
    c.loop-number.memories item _ c.loop-number.invariant (omega arith) c.index-items-number.is
    (ap (of_memory number) (ap (λ tables. memory_in tables (view item)) (sym above) ∙ c.in-Err.ensures))

pub returns : goal.returns
returns c =
    all_read said_memory (λ place value. of_memory place (memory_in (first_items place (items_view c.args.items.now)) value)) c.args.items.now c.loop-number.number
    c.loop-number.memories c.loop-number.invariant (omega arith)
