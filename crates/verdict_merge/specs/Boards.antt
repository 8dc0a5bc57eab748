-- What a board keeps.
use Rattle.std.specs.Prelude.{◌≡◌, ◌<◌, ◌≤◌, ◌+◌, ℕ, true, false, List, length, drop, Option, Some, None, slice_index_or}
use Rattle.std.specs.List.{sum_by}
use Rattle.apex_machine.specs.Pieces.{Part}
use Rattle.verdict_merge.specs.declared.judged.Judged.{Judged}
use Rattle.verdict_merge.specs.declared.log.Event.{Event}
use Rattle.verdict_merge.specs.Contents.{Content, IsJudged}
use Rattle.verdict_merge.specs.Logs.{AreAllClaimed, IsLegal, claimant, is_posted}

-- the place of a piece: it holds the result of that piece in the round if the piece is posted, and else nothing
abbrev pub IsPlaced : Content → List Event → ℕ → Option Judged → Type 0
IsPlaced round log piece None = is_posted log piece ≡ false
IsPlaced round log piece (Some judged) = (is_posted log piece ≡ true) × IsJudged round piece judged

-- one for a place that has a value
abbrev pub weight : Option Judged → ℕ
weight None = 0
weight (Some judged) = 1

-- how many places have a value
abbrev pub filled : List (Option Judged) → ℕ
filled places = sum_by weight places

-- what a board of a round keeps: this many of its pieces are claimed, in ascending order; the others are left; the history is legal;
-- and the places hold the results that were posted
pub record IsBoard (round : Content) (left : List Part) (claimed : ℕ) (log : List Event) (places : List (Option Judged)) : Type 0 where
  pub legal : IsLegal (length round.parts) log
  pub rest : left ≡ drop claimed round.parts
  pub whole : claimed + length left ≡ length round.parts
  pub free : (piece : ℕ) → claimed ≤ piece → claimant log piece ≡ None
  pub taken : AreAllClaimed claimed log
  pub count : length log ≡ claimed + filled places
  pub place : length places ≡ length round.parts
  pub placed : (piece : ℕ) (one : Option Judged) → piece < length round.parts → IsPlaced round log piece (slice_index_or places piece one)
