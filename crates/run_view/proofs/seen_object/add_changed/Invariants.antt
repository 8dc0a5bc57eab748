use Rattle.run_view.specs.Adds.{Adds}
use Rattle.run_view.specs.ObjectChanges.{IsItsChange}
use Rattle.run_view.specs.Plain.{plain_objects}
use Rattle.run_view.proofs.AddsExactly.{IsBelow, IsOfItem}
use Rattle.run_view.proofs.seen_object.add_changed.Given as goal

abbrev pub invariant-loop-index : goal.invariant-loop-index
invariant-loop-index l =
    Adds (IsBelow (IsOfItem (IsItsChange l.part l.kind (plain_objects l.before)) (plain_objects l.now)) l.index) l.fn.changes.items l.changes.items
