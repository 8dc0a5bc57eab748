use Rattle.std.proofs.Common.{◌≡◌, ◌<◌, ◌≤◌, ℕ, length, vec_capacity}
use Rattle.piece_check.specs.Parts.{HoldsBefore, IsOf}
use Rattle.verdict_merge.specs.Rounds.{cold_parts, holding_at}
use Rattle.verdict_merge.proofs.start.start_pieces.Given as goal

abbrev pub invariant-pieces : goal.invariant-pieces
invariant-pieces l = record {
  count : length l.pieces.items ≡ l.number;
  room : l.total ≤ vec_capacity l.pieces;
  cold : (number : ℕ) → number < l.number → (holding_at l.pieces.items number).part ≡ cold_parts l.config number;
  of_module : (number : ℕ) → number < l.number → IsOf l.config (holding_at l.pieces.items number);
  holds_before : (number : ℕ) → number < l.number → HoldsBefore 0 (cold_parts l.config number);
}
