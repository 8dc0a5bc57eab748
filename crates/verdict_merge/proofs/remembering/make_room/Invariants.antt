use Rattle.std.proofs.Common.{◌≡◌, length}
use Rattle.verdict_merge.proofs.remembering.make_room.Given as goal

abbrev pub invariant-places : goal.invariant-places
invariant-places l = length l.views.items ≡ l.counter
