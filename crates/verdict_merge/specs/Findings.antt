-- What decides against a recording, and the first of it.
use Rattle.std.specs.Prelude.{◌≡◌, ◌⊎◌, ◌<◌, ◌≤◌, ℕ, List, [], Option, Some, None, Contains}
use Rattle.piece_check.specs.declared.fault.PieceFault.{PieceFault}
use Rattle.piece_check.specs.declared.fault.PieceFault.TheVariants.{Rejected, Memory}
use Rattle.verdict_merge.specs.declared.finding.Finding.{Finding}
use Rattle.verdict_merge.specs.declared.finding.Finding.TheVariants as finding
use Rattle.verdict_merge.specs.declared.finding.Refused.{Refused}

-- the least of a list under an order: an item of the list that no other comes before; an empty list has none
abbrev pub IsLeast : {A : Type 0} → (A → A → Type 0) → List A → Option A → Type 0
IsLeast Before list None = list ≡ []
IsLeast {A} Before list (Some least) = Contains list least × ((other : A) → Contains list other → ¬ Before other least)

-- the lesser of the least so far and the next one
abbrev pub IsLesser : {A : Type 0} → (A → A → Type 0) → Option A → A → A → Type 0
IsLesser Before None next found = found ≡ next
IsLesser Before (Some least) next found = ((found ≡ next) × Before next least) ⊎ ((found ≡ least) × ¬ Before next least)

-- refusals of pieces

-- a refusal precedes another at a lower place, and at the same place if its piece has the lower number
abbrev pub Precedes : Refused → Refused → Type 0
Precedes a b = (a.pos < b.pos) ⊎ ((a.pos ≡ b.pos) × (a.piece < b.piece))

-- the least refusal after the next piece: as it was if that piece found nothing, else the lesser of the two
abbrev pub IsLeastWith : Option Refused → Option Refused → Option Refused → Type 0
IsLeastWith least None found = found ≡ least
IsLeastWith least (Some next) found = (one : Refused) × (found ≡ Some one) × IsLesser Precedes least next one

-- the refusal that a fault of the piece of this number means; a lack of memory is no refusal
abbrev pub refusal_of : PieceFault → ℕ → Option Refused
refusal_of (Rejected pos cause) piece = Some (record { pos = pos; piece = piece; cause = cause })
refusal_of Memory piece = None

-- findings of pieces and of rules

-- a finding comes before another at a lower place; at the same place pieces come first, by number, and then rules, by number
abbrev pub ComesBefore : Finding → Finding → Type 0
ComesBefore (finding.Piece a) (finding.Piece b) = Precedes a b
ComesBefore (finding.Piece a) (finding.Rule pos rule) = a.pos ≤ pos
ComesBefore (finding.Rule pos rule) (finding.Piece b) = pos < b.pos
ComesBefore (finding.Rule pos rule) (finding.Rule place number) = (pos < place) ⊎ ((pos ≡ place) × (rule < number))
