-- What a sink over a writer shows of the bytes that went out.
use Rattle.std.specs.Prelude.{ℕ, List, Option, Some, None, ⊤}

-- what contracts see of a sink over a writer: the bytes that the writer holds, if they are known, and how often it failed
pub record WriterView : Type 0 where
  pub bytes : Option (List ℕ)
  pub failures : ℕ

-- the bytes that a writer holds now, if it has reported them from the first on
abbrev pub held_since : Option (List ℕ) → Option (List ℕ) → Option (List ℕ)
held_since None now = None
held_since (Some first) now = now

-- a writer that reported its bytes at first reports them still
abbrev pub StillTells : Option (List ℕ) → Option (List ℕ) → Type 0
StillTells None now = ⊤
StillTells (Some first) None = ⊥
StillTells (Some first) (Some now) = ⊤
