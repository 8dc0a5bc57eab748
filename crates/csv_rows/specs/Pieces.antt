-- The fields of a line, by the places where they end.
use Rattle.std.specs.Prelude.{◌≡◌, ◌≤◌, ◌<◌, ◌+◌, ◌-◌, ⊤, ℕ, zero, suc, List, [], ◌∷◌, ◌++◌, drop, length, slice_index, slice_range, take, Bool, true, false}
use Rattle.csv_rows.specs.Line.{IsPlain, split, split_after}

-- the fields that end at these places, the first of which begins at `start`; there is one byte between a field and the next
unfoldable pub pieces_from : ℕ → List ℕ → List ℕ → List (List ℕ)
pieces_from start [] line = []
pieces_from start (end ∷ ends) line = slice_range line start end ∷ pieces_from (end + 1) ends line

-- such places rise, and none is after the end of a line of this length
unfoldable pub AreEnds : ℕ → List ℕ → ℕ → Type 0
AreEnds start [] length_of = ⊤
AreEnds start (end ∷ ends) length_of = (start ≤ end) × (end ≤ length_of) × AreEnds (end + 1) ends length_of

-- where the field at a place begins
abbrev pub start_at : ℕ → List ℕ → ℕ → ℕ
start_at start ends zero = start
start_at start [] (suc place) = start
start_at start (end ∷ ends) (suc place) = start_at (end + 1) ends place

-- where the field after these ends begins
abbrev pub next_start : ℕ → List ℕ → ℕ
next_start start [] = start
next_start start (end ∷ ends) = next_start (end + 1) ends

-- the fields that have ended so far, and the one at hand with the rest of the line, are those of the line
abbrev pub CutSoFar : List ℕ → List ℕ → ℕ → Type 0
CutSoFar line ends place = split line ≡ pieces_from 0 ends line ++ split_after (slice_range line (next_start 0 ends) place) (drop place line)

-- the line is cut up to a place
pub record IsCut (line ends : List ℕ) (place : ℕ) : Type 0 where
  pub are : AreEnds 0 ends (length line)
  pub begun : next_start 0 ends ≤ place
  pub so_far : CutSoFar line ends place

-- the bytes of a text before this place are plain, and the line at its front, wherever it ends after them, is cut up to there
pub record IsSeen (text ends : List ℕ) (place : ℕ) : Type 0 where
  pub within : place ≤ length text
  pub plain : (before : ℕ) → before < place → IsPlain (slice_index text before)
  pub cut : (end : ℕ) → place ≤ end → end ≤ length text → IsCut (take end text) ends place

-- the front of a text is plain up to this place: there the text ends, or has a byte that is not plain
pub record StopsAt (text : List ℕ) (stop : ℕ) : Type 0 where
  pub within : stop ≤ length text
  pub plain : (before : ℕ) → before < stop → IsPlain (slice_index text before)
  pub special : stop < length text → ¬ IsPlain (slice_index text stop)

-- what one look at a byte shows: the front of the text stops there, or it was seen too
abbrev pub IsLookedAt : List ℕ → List ℕ → ℕ → Bool → Type 0
IsLookedAt text ends place true = StopsAt text place × IsSeen text ends place
IsLookedAt text ends place false = IsSeen text ends (place + 1)
