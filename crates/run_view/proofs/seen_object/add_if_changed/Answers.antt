-- An object that was seen as it is has no change.
use Rattle.std.proofs.Common.{Bool, Decides, sym, subst}
use Rattle.std.specs.List.{Contains}
use Rattle.run_view.specs.declared.change.Change.TheVariants as variant
use Rattle.run_view.specs.declared.thing.ThingKey.TheVariants as key
use Rattle.run_view.specs.contracts.seen_object.SeenObjectPartialEq.TheImpl as seen_objects
use Rattle.run_view.specs.Plain.{plain_object, plain_objects}
use Rattle.run_view.proofs.Finding.{among_shown, none_if, one_if_not}
use Rattle.run_view.proofs.SameThings.{same_object}
use Rattle.run_view.proofs.seen_object.add_if_changed.Goals as goal

pub returns-then-is_among : goal.returns-then-is_among
returns-then-is_among c =
    let before = c.args.before.now in
    let object = c.args.object.now in
    let decides = subst (λ (test : Bool). Decides test (Contains (plain_objects before) (plain_object object))) (sym c.is_among.ensures)
    (among_shown seen_objects.eq-value.it plain_object same_object before object) in
    none_if (variant.Thing (key.Object c.args.part c.args.kind object.number)) c.is_among.result c.args.changes.now.items decides c.if-is_among.true

pub returns : goal.returns
returns c =
    let before = c.args.before.now in
    let object = c.args.object.now in
    let decides = subst (λ (test : Bool). Decides test (Contains (plain_objects before) (plain_object object))) (sym c.is_among.ensures)
    (among_shown seen_objects.eq-value.it plain_object same_object before object) in
    one_if_not (variant.Thing (key.Object c.args.part c.args.kind object.number)) c.is_among.result c.add.result c.args.changes.now.items _ decides c.if-is_among.false c.add.ensures
