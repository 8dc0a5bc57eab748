use Rattle.std.proofs.Common.{◌≡◌, ◌≤◌, ℕ}
use Rattle.run_view.specs.Seen.{room_of, seen_of}
use Rattle.run_view.proofs.last_seen.LastSeen.make_room.Given as goal

abbrev pub invariant-room : goal.invariant-room
invariant-room l = record {
  room : l._piece ≤ room_of l.self;
  seen : (number : ℕ) → seen_of l.self number ≡ seen_of l.fn.self number;
}
