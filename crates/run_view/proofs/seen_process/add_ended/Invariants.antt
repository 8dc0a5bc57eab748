use Rattle.run_view.specs.Adds.{Adds}
use Rattle.run_view.specs.ProcessChanges.{IsItsEnd}
use Rattle.run_view.proofs.AddsExactly.{IsBelow, IsOfItemFromEnd}
use Rattle.run_view.proofs.seen_process.add_ended.Given as goal

abbrev pub invariant-loop-after : goal.invariant-loop-after
invariant-loop-after l = Adds (IsBelow (IsOfItemFromEnd (IsItsEnd l.part l.now) l.before) l.after) l.fn.changes.items l.changes.items
