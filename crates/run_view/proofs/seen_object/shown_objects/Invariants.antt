use Rattle.std.proofs.Common.{take}
use Rattle.run_view.specs.Plain.{plain_objects}
use Rattle.run_view.proofs.ShownObjects.{AreShown}
use Rattle.run_view.proofs.seen_object.shown_objects.Given as goal

abbrev pub invariant-loop-index : goal.invariant-loop-index
invariant-loop-index l = AreShown l.kind l.state (take l.index l.numbers.items) (plain_objects l.shown.items)
