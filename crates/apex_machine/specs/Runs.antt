-- What a piece makes of a whole recording: its run over the records that touch it, or its first refusal.
use Rattle.std.specs.Prelude.{◌≡◌, ◌⊎◌, ◌<◌, ℕ, suc, List, [], ◌∷◌, Option, Some, None, Bool, true, false, IsTrue}
use Rattle.apex_types.specs.declared.cause.Cause.{Cause}
use Rattle.apex_types.specs.declared.record.Ordered.{Ordered}
use Rattle.apex_machine.specs.Configuration.{Configuration}
use Rattle.apex_machine.specs.Demands.{FirstFails, LocalStep, demands}
use Rattle.apex_machine.specs.Pieces.{Part, Piece, touches}

-- the records are at this place and the places after it
abbrev pub ArePlaced : ℕ → List Ordered → Type 0
ArePlaced place [] = Unit {0}
ArePlaced place (ordered ∷ others) = (ordered.pos ≡ place) × ArePlaced (suc place) others

-- each record is of a configured core
abbrev pub AreOfCores : ℕ → List Ordered → Type 0
AreOfCores cores [] = Unit {0}
AreOfCores cores (ordered ∷ others) = (ordered.core < cores) × AreOfCores cores others

-- if a record touches the piece, the piece makes its local step; else its part stays as it was
abbrev pub Goes : Bool → Configuration → Part → Ordered → Part → Type 0
Goes true configuration old ordered new = LocalStep configuration old ordered new
Goes false configuration old ordered new = new ≡ old

-- the run of a piece over the records
abbrev pub PieceRun : Configuration → Piece → Part → List Ordered → Part → Type 0
PieceRun configuration piece old [] final = final ≡ old
PieceRun configuration piece old (ordered ∷ others) final =
    (next : Part) × Goes (touches configuration piece ordered) configuration old ordered next
    × PieceRun configuration piece next others final

-- a piece rejects the record at a place, for a cause
pub record Refusal : Type 0 where
  pub pos : ℕ
  pub cause : Cause

-- a piece runs over these records, and then rejects this one, which touches it, for this cause
abbrev pub Refuses : Configuration → Piece → Part → List Ordered → Ordered → Cause → Type 0
Refuses configuration piece old before ordered cause =
    (reached : Part) × PieceRun configuration piece old before reached
    × IsTrue (touches configuration piece ordered) × FirstFails (demands configuration reached ordered) cause

-- what a piece finds at a record and after it, by whether the record touches it
abbrev pub FindsNext : Bool → Configuration → Part → Ordered → (Part → Type 0) → Option Refusal → Type 0
FindsNext false configuration old ordered More found = More old
FindsNext true configuration old ordered More found =
    ((next : Part) × LocalStep configuration old ordered next × More next)
    ⊎ ((cause : Cause) × FirstFails (demands configuration old ordered) cause × (found ≡ Some (record { pos = ordered.pos; cause = cause })))

-- the first refusal of a piece over the records that touch it, if there is one
abbrev pub Finds : Configuration → Piece → Part → List Ordered → Option Refusal → Type 0
Finds configuration piece old [] found = found ≡ None
Finds configuration piece old (ordered ∷ others) found =
    FindsNext (touches configuration piece ordered) configuration old ordered
    (λ next. Finds configuration piece next others found) found
