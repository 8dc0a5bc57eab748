-- What the recordings of all cores and the certificate have left, and what is ahead of a placer.
use Rattle.std.specs.Prelude.{◌≡◌, ◌<◌, ℕ, zero, suc, List, [], ◌∷◌, ◌++◌, Bool, true, false, Option, Some, None, Result, Ok, Err, All, IfOk, IfSome, drop, length}
use Rattle.core_intake.specs.Answered.{Answer, IsHonest, Answered}
use Rattle.apex_types.specs.declared.record.Ordered.{Ordered}
use Rattle.order_cert.specs.declared.fault.CertFault.TheVariants as cert
use Rattle.order_cert.specs.Kept.{Kept, place_of, taken_of}
use Rattle.order_cert.specs.Row.{Item as CertItem}
use Rattle.record_read.specs.declared.fault.RowFault.TheVariants as row
use Rattle.record_read.specs.Row.{Item}
use Rattle.placement.specs.declared.fault.InputFault.{InputFault}
use Rattle.placement.specs.declared.fault.PlacingFault.{PlacingFault}
use Rattle.placement.specs.declared.fault.PlacingFault.TheVariants.{Input, Memory}
use Rattle.placement.specs.declared.placer.Filled.{Filled}
use Rattle.placement.specs.declared.placer.Filled.TheVariants as filled
use Rattle.placement.specs.Reading.{CanFail, Reads}
use Rattle.placement.specs.Scan.{Scan, ends_of, ends_so, led_by, scan}

-- what an answer leaves of these items, if they are known: a record is the first of them; after a fault nothing is known
abbrev pub left_after : Option (List Item) → Answer → Option (List Item)
left_after None answer = None
left_after (Some items) (Ok (Some rec)) = Some (drop 1 items)
left_after (Some items) (Ok None) = Some items
left_after (Some items) (Err fault) = None

-- what answers leave of these items, one after another
abbrev pub left_after_all : Option (List Item) → List Answer → Option (List Item)
left_after_all left [] = left
left_after_all left (answer ∷ later) = left_after_all (left_after left answer) later

-- what is left of a recording after these answers
abbrev pub remaining_in : Answered → Option (List Item)
remaining_in lane = left_after_all lane.items lane.given

-- what the recording of a core has left: nothing if there is no such core
abbrev pub left_at : List Answered → ℕ → Option (List Item)
left_at [] core = Some []
left_at (lane ∷ others) zero = remaining_in lane
left_at (lane ∷ others) (suc core) = left_at others core

-- the answers for each core are answers of a source of its recording, which can fail or cannot
abbrev pub AreHonest : Bool → List Answered → Type 0
AreHonest can_fail lanes = All (IsHonest can_fail) lanes

-- these items are left of the recordings
abbrev pub AreLeft : List Answered → (ℕ → List Item) → Type 0
AreLeft lanes items = (core : ℕ) → left_at lanes core ≡ Some (items core)

-- some readings of these items are scanned so, from this place on
abbrev pub IsScanOf : CanFail → ℕ → (ℕ → ℕ) → ℕ → (ℕ → List Item) → List CertItem → Scan → Type 0
IsScanOf can_fail cores taken place items certificate scanned =
    (left : ℕ → List Item) × (pairs : List CertItem)
    × ((core : ℕ) → Reads can_fail.recordings row.Read (items core) (left core)) × Reads can_fail.certificate cert.Read certificate pairs
    × (scan cores taken place left pairs ≡ scanned)

-- some readings of what is left end so
abbrev pub IsEnded : Bool → List Answered → ℕ → (ℕ → ℕ) → Result (Unit {0}) InputFault → Type 0
IsEnded can_fail lanes place taken result =
    (items : ℕ → List Item) → AreLeft lanes items
    → (left : ℕ → List Item) × ((core : ℕ) → Reads can_fail row.Read (items core) (left core)) × (ends_of (length lanes) place taken left ≡ result)

-- what callers see of a placer: the answers of the recordings; what the certificate has left, if that is known; how many numbers of each
-- core were taken; and whether the input has ended
pub record Placing : Type 0 where
  pub lanes : List Answered
  pub pairs : Option (List CertItem)
  pub kept : Kept
  pub ended : Bool

-- these records are ahead, and the input ends so after them, for some readings of what is left, if that is known
abbrev pub IsAhead : CanFail → Placing → Scan → Type 0
IsAhead can_fail placing scanned =
    (items : ℕ → List Item) (certificate : List CertItem) → AreLeft placing.lanes items → placing.pairs ≡ Some certificate
    → IsScanOf can_fail (length placing.lanes) (taken_of placing.kept) (place_of placing.kept) items certificate scanned

-- a fact about how the input ends, if an answer reports it: a lack of memory says nothing about the input
abbrev pub OnEnd : (Result (Unit {0}) InputFault → Type 0) → Result (Unit {0}) PlacingFault → Type 0
OnEnd Fact (Ok ended) = Fact (Ok ended)
OnEnd Fact (Err (Input fault)) = Fact (Err fault)
OnEnd Fact (Err Memory) = Unit {0}

-- these records came before all that is still ahead
abbrev pub Lead : CanFail → Placing → List Ordered → Placing → Type 0
Lead can_fail old records new = (scanned : Scan) → IsAhead can_fail new scanned → IsAhead can_fail old (led_by records scanned)

-- one answer of a placer: the first record that was ahead, or None if none was and the input ends
abbrev pub IsNext : CanFail → Placing → Result (Option Ordered) PlacingFault → Placing → Type 0
IsNext can_fail old (Ok (Some ordered)) new = Lead can_fail old (ordered ∷ []) new
IsNext can_fail old (Ok None) new = IsAhead can_fail old (ends_so (Ok tt))
IsNext can_fail old (Err fault) new = OnEnd (λ end. IsAhead can_fail old (ends_so end)) (Err fault)

-- an answer of a placer was put into a list of records, with this result: a record comes last; the end and a fault change nothing
abbrev pub Puts : Result (Option Ordered) PlacingFault → List Ordered → Result Bool PlacingFault → List Ordered → Type 0
Puts (Ok (Some ordered)) old result new = (result ≡ Ok true) × (new ≡ old ++ ordered ∷ [])
Puts (Ok None) old result new = (result ≡ Ok false) × (new ≡ old)
Puts (Err fault) old result new = (result ≡ Err fault) × (new ≡ old)

-- a record that was given is at this place, and of one of so many cores
abbrev pub IsPlacedAt : ℕ → ℕ → Result (Option Ordered) PlacingFault → Type 0
IsPlacedAt place cores next = IfOk next (λ given. IfSome given (λ ordered. (ordered.pos ≡ place) × (ordered.core < cores)))

-- one round of a placer: records that came before all that is still ahead; or all that were ahead, and the input ends so; a lack of memory
-- says nothing about the input
abbrev pub IsFilled : CanFail → Placing → List Ordered → Filled → Placing → Type 0
IsFilled can_fail old records filled.Full new = Lead can_fail old records new
IsFilled can_fail old records (filled.Ended end) new = IsAhead can_fail old (record { placed = records; end = end })
IsFilled can_fail old records filled.Memory new = Unit {0}
