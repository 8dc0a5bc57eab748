-- What the pieces of a module make of one record.
use Rattle.std.specs.Prelude.{◌≡◌, ◌<◌, ◌≤◌, ◌+◌, ℕ, List, [], ◌∷◌, Option, Some, None, length}
use Rattle.apex_types.specs.declared.cause.Cause.{Cause}
use Rattle.apex_types.specs.declared.record.Ordered.{Ordered}
use Rattle.apex_machine.specs.Configuration.{Configuration}
use Rattle.apex_machine.specs.Pieces.{Part, pieces, touches}
use Rattle.apex_machine.specs.Runs.{Goes}
use Rattle.piece_check.specs.Parts.{Holding, HoldsBefore, IsOf, holder, piece_at}
use Rattle.verdict_merge.specs.Rounds.{AllRun, IsNo, Rejects, Runs, parts_in}
use Rattle.shown_run.specs.declared.walk.Refusal.{Refusal}

-- a piece takes a record and may take the next one; or it rejects the record for a cause, and its part is as it was
abbrev pub HasTaken : Configuration → Ordered → Holding → Option Cause → Holding → Type 0
HasTaken configuration ordered old None new =
    Goes (touches configuration (holder old.part) ordered) configuration old.part ordered new.part
    × (holder new.part ≡ holder old.part) × IsOf configuration new × HoldsBefore (ordered.pos + 1) new.part
HasTaken configuration ordered old (Some cause) new = Rejects configuration (holder old.part) old.part ordered cause × (new.part ≡ old.part)

-- each piece takes a record; or one piece rejects it and none with a smaller number does: it still rejects the record, and its part and
-- those with greater numbers are as they were before the record
abbrev pub Takes : Configuration → Ordered → List Holding → Option Refusal → List Holding → Type 0
Takes configuration ordered old None new = AllRun configuration (parts_in old) (ordered ∷ []) (parts_in new)
Takes configuration ordered old (Some refusal) new =
    IsNo configuration (parts_in old) (ordered ∷ []) (record { pos = ordered.pos; piece = refusal.piece; cause = refusal.cause })
    × Rejects configuration (piece_at configuration refusal.piece) (parts_in new refusal.piece) ordered refusal.cause
    × ((number : ℕ) → refusal.piece ≤ number → parts_in new number ≡ parts_in old number)

-- each piece has a run over these records from its part
abbrev pub EachRuns : Configuration → (ℕ → Part) → List Ordered → Type 0
EachRuns configuration parts records = (number : ℕ) → number < length (pieces configuration) → Runs configuration parts number records
