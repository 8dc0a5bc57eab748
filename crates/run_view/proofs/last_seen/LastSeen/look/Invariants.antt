use Rattle.std.proofs.Common.{◌≤◌, length}
use Rattle.std.specs.Option.{option_copied}
use Rattle.run_view.specs.Seen.{room_of, seen_of}
use Rattle.run_view.proofs.Looks.{AreLookedAt}
use Rattle.run_view.proofs.last_seen.LastSeen.look.Given as goal

abbrev pub invariant-loop-number : goal.invariant-loop-number
invariant-loop-number l = record {
  room : length l.pieces ≤ room_of l.self;
  looked : AreLookedAt l.config l.pieces (option_copied l.ordered) (seen_of l.fn.self) (seen_of l.self) l.number l.fn.changes.items l.changes.items;
}
