use Rattle.std.proofs.Common.{◌≡◌, ◌<◌, ◌++◌, ℕ, length, slice_index_or}
use Rattle.std.specs.Vec.{vec_capacity}
use Rattle.verdict_merge.specs.declared.judged.Judged.{Judged}
use Rattle.verdict_merge.specs.Contents.{IsJudged}
use Rattle.verdict_merge.proofs.board.Board.finish.Given as goal

abbrev pub invariant-places : goal.invariant-places
invariant-places g l = record {
  given : l.yielded ++ l.place-iterator.rest.items ≡ l.self-inside.places.items;
  count : length l.judged.items ≡ length l.yielded;
  room : vec_capacity l.judged ≡ length l.self-inside.places.items;
  each : (number : ℕ) → number < length l.yielded → (one : Judged) → one ≡ slice_index_or l.judged.items number one → IsJudged g.J.Naming.round number one;
}
