-- Which histories of a board are legal.
use Rattle.std.specs.Prelude.{◌≡◌, ◌≢◌, ◌<◌, ◌==◌, ◌||◌, ℕ, Bool, false, List, [], ◌∷◌, ◌++◌, Option, Some, None, cond}
use Rattle.verdict_merge.specs.declared.log.Event.{Event}
use Rattle.verdict_merge.specs.declared.log.Event.TheVariants.{Claim, Post}
use Rattle.verdict_merge.specs.declared.round_fault.PostRefusal.{PostRefusal}
use Rattle.verdict_merge.specs.declared.round_fault.PostRefusal.TheVariants.{NotClaimed, Foreign, Repeated}

-- the worker that has claimed the piece, if any
abbrev pub claimant : List Event → ℕ → Option ℕ
claimant [] piece = None
claimant (Claim worker claimed ∷ events) piece = cond (claimed == piece) (Some worker) (claimant events piece)
claimant (Post worker posted ∷ events) piece = claimant events piece

-- whether the piece is posted
abbrev pub is_posted : List Event → ℕ → Bool
is_posted [] piece = false
is_posted (Claim worker claimed ∷ events) piece = is_posted events piece
is_posted (Post worker posted ∷ events) piece = (posted == piece) || is_posted events piece

-- the event may come after these ones, with this many pieces: a claim of a piece that nobody has claimed, or a post of a piece by the
-- worker that has claimed it, if it is not posted yet
abbrev pub MayFollow : ℕ → List Event → Event → Type 0
MayFollow count log (Claim worker piece) = (piece < count) × (claimant log piece ≡ None)
MayFollow count log (Post worker piece) = (claimant log piece ≡ Some worker) × (is_posted log piece ≡ false)

-- each of the events may come after those before it
abbrev pub MayAllFollow : ℕ → List Event → List Event → Type 0
MayAllFollow count log [] = Unit {0}
MayAllFollow count log (event ∷ events) = MayFollow count log event × MayAllFollow count (log ++ event ∷ []) events

-- a history of a board with this many pieces is legal
abbrev pub IsLegal : ℕ → List Event → Type 0
IsLegal count log = MayAllFollow count [] log

-- the piece is the first that nobody has claimed
pub record IsFirstLeft (count : ℕ) (log : List Event) (piece : ℕ) : Type 0 where
  pub within : piece < count
  pub left : claimant log piece ≡ None
  pub rising : (smaller : ℕ) → smaller < piece → claimant log smaller ≢ None

-- every piece has been claimed
abbrev pub AreAllClaimed : ℕ → List Event → Type 0
AreAllClaimed count log = (piece : ℕ) → piece < count → claimant log piece ≢ None

-- why a worker's post of a piece is refused, by who has claimed the piece and whether it is posted
abbrev pub refusal_by : Option ℕ → Bool → ℕ → Option PostRefusal
refusal_by None posted worker = Some NotClaimed
refusal_by (Some by) posted worker = cond (by == worker) (cond posted (Some Repeated) None) (Some Foreign)

-- why a worker's post of a piece is refused after these events: nobody has claimed the piece, or another worker has, or it is posted
abbrev pub refusal_of : List Event → ℕ → ℕ → Option PostRefusal
refusal_of log worker piece = refusal_by (claimant log piece) (is_posted log piece) worker
