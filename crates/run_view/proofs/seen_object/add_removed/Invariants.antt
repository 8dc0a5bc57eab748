use Rattle.run_view.specs.Adds.{Adds}
use Rattle.run_view.specs.ObjectChanges.{IsItsEnd}
use Rattle.run_view.specs.Plain.{plain_objects}
use Rattle.run_view.proofs.AddsExactly.{IsBelow, IsOfItemFromEnd}
use Rattle.run_view.proofs.seen_object.add_removed.Given as goal

abbrev pub invariant-loop-after : goal.invariant-loop-after
invariant-loop-after l =
    Adds (IsBelow (IsOfItemFromEnd (IsItsEnd l.part l.kind (plain_objects l.now)) (plain_objects l.before)) l.after) l.fn.changes.items l.changes.items
