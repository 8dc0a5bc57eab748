-- An object whose number is there is not gone.
use Rattle.run_view.specs.declared.change.Change.TheVariants as variant
use Rattle.run_view.specs.declared.thing.ThingKey.TheVariants as key
use Rattle.run_view.proofs.Finding.{none_if, one_if_not}
use Rattle.run_view.proofs.seen_object.add_if_removed.Goals as goal

pub returns-then-has_number : goal.returns-then-has_number
returns-then-has_number c =
    none_if (variant.Removed (key.Object c.args.part c.args.kind c.args.object.now.number)) c.has_number.result c.args.changes.now.items c.has_number.ensures c.if-has_number.true

pub returns : goal.returns
returns c =
    one_if_not (variant.Removed (key.Object c.args.part c.args.kind c.args.object.now.number)) c.has_number.result c.add.result c.args.changes.now.items _ c.has_number.ensures
    c.if-has_number.false c.add.ensures
