use Rattle.run_view.specs.Adds.{Adds}
use Rattle.run_view.specs.ProcessChanges.{IsItsChange}
use Rattle.run_view.proofs.AddsExactly.{IsBelow, IsOfItem}
use Rattle.run_view.proofs.seen_process.add_changed.Given as goal

abbrev pub invariant-loop-index : goal.invariant-loop-index
invariant-loop-index l = Adds (IsBelow (IsOfItem (IsItsChange l.part l.before) l.now) l.index) l.fn.changes.items l.changes.items
