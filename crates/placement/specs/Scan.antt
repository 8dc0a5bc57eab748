-- The records in the order of the certificate, and how the input ends.
use Rattle.std.specs.Prelude.{ℕ, zero, suc, List, [], ◌∷◌, ◌++◌, Option, Some, None, Result, Ok, Err}
use Rattle.apex_types.specs.declared.record.Ordered.{Ordered}
use Rattle.apex_types.specs.declared.record.Pair.{Pair}
use Rattle.apex_types.specs.declared.record.Record.{Record}
use Rattle.order_cert.specs.declared.fault.CertFault.{CertFault}
use Rattle.order_cert.specs.declared.fault.CertFault.TheVariants as cert
use Rattle.order_cert.specs.declared.fault.OrderFault.{OrderFault}
use Rattle.order_cert.specs.declared.fault.OrderFault.TheVariants.{Absent, Missing}
use Rattle.order_cert.specs.Kept.{put}
use Rattle.order_cert.specs.Order.{misplaced}
use Rattle.order_cert.specs.Row.{Item as CertItem}
use Rattle.record_read.specs.declared.fault.RowFault.{RowFault}
use Rattle.record_read.specs.declared.fault.RowFault.TheVariants as row
use Rattle.record_read.specs.Row.{Item}
use Rattle.placement.specs.declared.fault.InputFault.{InputFault}
use Rattle.placement.specs.declared.fault.InputFault.TheVariants as input
use Rattle.placement.specs.declared.fault.PlacingFault.{PlacingFault}
use Rattle.placement.specs.declared.fault.PlacingFault.TheVariants as placing

-- records at their places, and the input's fault after the last, if it has one
pub record Scan : Type 0 where
  pub placed : List Ordered
  pub end : Result (Unit {0}) InputFault

-- no record is ahead, and the input ends so
abbrev pub ends_so : Result (Unit {0}) InputFault → Scan
ends_so end = record { placed = []; end = end }

-- these records, and what is after them
abbrev pub led_by : List Ordered → Scan → Scan
led_by records scanned = record { placed = records ++ scanned.placed; end = scanned.end }

-- the record at its place
abbrev pub placed_at : ℕ → ℕ → Record → Ordered
placed_at place core rec = record { pos = place; core = core; rec = rec }

-- after the last pair each recording has ended; one that has not is Missing, or has its own fault
abbrev pub end_of : ℕ → ℕ → ℕ → List Item → Result (Unit {0}) InputFault
end_of place core taken [] = Ok tt
end_of place core taken (Ok rec ∷ rest) = Err (input.Order place core Missing)
end_of place core taken (Err fault ∷ rest) = Err (input.Row core taken fault)

-- the first fault of two ends
abbrev pub and_then : Result (Unit {0}) InputFault → Result (Unit {0}) InputFault → Result (Unit {0}) InputFault
and_then (Err fault) later = Err fault
and_then (Ok ended) later = later

-- the least core whose recording has not ended decides
abbrev pub ends_of : ℕ → ℕ → (ℕ → ℕ) → (ℕ → List Item) → Result (Unit {0}) InputFault
ends_of zero place taken left = Ok tt
ends_of (suc core) place taken left = and_then (ends_of core place taken left) (end_of place core (taken core) (left core))

-- a pair that may not be there ends the input
abbrev pub keeping : Option OrderFault → ℕ → Pair → Scan → Scan
keeping (Some fault) place pair later = ends_so (Err (input.Order place pair.core fault))
keeping None place pair later = later

-- a pair takes the next record of its core; it ends the input if that record is absent or faulty
abbrev pub taking : ℕ → Pair → List Item → (Record → List Item → Scan) → Scan
taking place pair [] later = ends_so (Err (input.Order place pair.core Absent))
taking place pair (Err fault ∷ rest) later = ends_so (Err (input.Row pair.core pair.seq fault))
taking place pair (Ok rec ∷ rest) later = led_by (placed_at place pair.core rec ∷ []) (later rec rest)

-- each pair of the certificate takes the next record of its core, the first at this place, after this many records of each core were
-- taken
unfoldable pub scan : ℕ → (ℕ → ℕ) → ℕ → (ℕ → List Item) → List CertItem → Scan
scan cores taken place left [] = ends_so (ends_of cores place taken left)
scan cores taken place left (Err fault ∷ rest) = ends_so (Err (input.Cert place fault))
scan cores taken place left (Ok pair ∷ rest) =
    keeping (misplaced cores taken pair) place pair
    (taking place pair (left pair.core) (λ rec more.
    scan cores (put taken pair.core (suc (taken pair.core))) (suc place) (put left pair.core more) rest))

-- faults as a placer reports them; a lack of memory is no fault of the input

-- a fault of the certificate's row for a place
abbrev pub cert_fault : ℕ → CertFault → PlacingFault
cert_fault place cert.Memory = placing.Memory
cert_fault place fault = placing.Input (input.Cert place fault)

-- a fault of a core's recording after this many records
abbrev pub row_fault : ℕ → ℕ → RowFault → PlacingFault
row_fault core seq row.Memory = placing.Memory
row_fault core seq fault = placing.Input (input.Row core seq fault)
