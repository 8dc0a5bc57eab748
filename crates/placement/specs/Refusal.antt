-- What a refusal of the input means: where its first fault is.
use Rattle.std.specs.Prelude.{◌≡◌, ◌<◌, ◌≤◌, ◌⊎◌, ℕ, List, [], ◌∷◌, ◌++◌, Option, Some, None, Ok, Err, length, map, slice_get, take}
use Rattle.apex_types.specs.declared.limits.TheConstants.{MOST_RECORDS}
use Rattle.apex_types.specs.declared.record.Pair.{Pair}
use Rattle.apex_types.specs.declared.record.Record.{Record}
use Rattle.order_cert.specs.declared.fault.OrderFault.{OrderFault}
use Rattle.order_cert.specs.declared.fault.OrderFault.TheVariants.{Absent, Missing, NoSuchCore, Repeated, Skipped}
use Rattle.order_cert.specs.Kept.{none_taken}
use Rattle.order_cert.specs.Order.{IsPrefixOfLawful, numbers_of, pair_of}
use Rattle.order_cert.specs.Row.{Item as CertItem}
use Rattle.record_read.specs.Row.{Item}
use Rattle.placement.specs.declared.fault.InputFault.{InputFault}
use Rattle.placement.specs.declared.fault.InputFault.TheVariants as input
use Rattle.placement.specs.Scan.{Scan, scan}

-- how many records of a core these pairs take: the number of the core's next record
abbrev pub taken_by : List Pair → ℕ → ℕ
taken_by pairs core = length (numbers_of core pairs)

-- the first rows of the certificate are these pairs, which begin a lawful order, and the recordings have a record for each of them
pub record AreTaken (cores : ℕ) (left : ℕ → List Item) (certificate : List CertItem) (pairs : List Pair) : Type 0 where
  pub rows : take (length pairs) certificate ≡ map Ok pairs
  pub lawful : IsPrefixOfLawful cores pairs
  pub recordings : ℕ → List Record
  pub counts : (core : ℕ) → core < cores → length (recordings core) ≡ taken_by pairs core
  pub recorded : (core : ℕ) → core < cores → take (length (recordings core)) (left core) ≡ map Ok (recordings core)

-- the row after these pairs, if there is one
abbrev pub next_row : List CertItem → List Pair → Option CertItem
next_row certificate pairs = slice_get certificate (length pairs)

-- the item of a core after those that these pairs take, if there is one
abbrev pub next_item : (ℕ → List Item) → List Pair → ℕ → Option Item
next_item left pairs core = slice_get (left core) (taken_by pairs core)

-- the next row is the pair of this core and this number, with which the pairs begin a lawful order
abbrev pub MayComeNext : ℕ → List CertItem → List Pair → ℕ → ℕ → Type 0
MayComeNext cores certificate pairs core seq =
    (next_row certificate pairs ≡ Some (Ok (pair_of core seq))) × IsPrefixOfLawful cores (pairs ++ pair_of core seq ∷ [])

-- the next row is the pair of this core and this number, with which the pairs begin no lawful order
abbrev pub MayNotComeNext : ℕ → List CertItem → List Pair → ℕ → ℕ → Type 0
MayNotComeNext cores certificate pairs core seq =
    (next_row certificate pairs ≡ Some (Ok (pair_of core seq))) × (¬ IsPrefixOfLawful cores (pairs ++ pair_of core seq ∷ []))

-- there is no further row, this is the lowest-numbered core that has an item left, and this is its next item
abbrev pub IsLeastLeft : ℕ → (ℕ → List Item) → List CertItem → List Pair → ℕ → Item → Type 0
IsLeastLeft cores left certificate pairs core item =
    (next_row certificate pairs ≡ None) × (core < cores) × ((below : ℕ) → below < core → next_item left pairs below ≡ None)
    × (next_item left pairs core ≡ Some item)

-- the order has this fault after these pairs, at this core: the next pair may not be there, since there is no such core, or its number was
-- taken, or is above the core's next one or one that no recording has; or the pair may be there, and its core's recording has ended; or there
-- is no further row, and a record is left
abbrev pub IsOrderFault : ℕ → (ℕ → List Item) → List CertItem → List Pair → ℕ → OrderFault → Type 0
IsOrderFault cores left certificate pairs core NoSuchCore = (seq : ℕ) × MayNotComeNext cores certificate pairs core seq × (cores ≤ core)
IsOrderFault cores left certificate pairs core Repeated =
    (seq : ℕ) × MayNotComeNext cores certificate pairs core seq × (core < cores) × (seq < taken_by pairs core)
IsOrderFault cores left certificate pairs core Skipped =
    (seq : ℕ) × MayNotComeNext cores certificate pairs core seq × (core < cores)
    × ((taken_by pairs core < seq) ⊎ ((seq ≡ taken_by pairs core) × (MOST_RECORDS ≤ seq)))
IsOrderFault cores left certificate pairs core Absent = (seq : ℕ) × MayComeNext cores certificate pairs core seq × (next_item left pairs core ≡ None)
IsOrderFault cores left certificate pairs core Missing = (rec : Record) × IsLeastLeft cores left certificate pairs core (Ok rec)

-- the first fault of the input is this one, after these pairs: the next row of the certificate has it; or the order has it; or the row has
-- it that the next pair names in its core's recording; or, if the certificate has no further row, the next row of the lowest-numbered core
-- that has a row left has it
abbrev pub IsFirstFault : ℕ → (ℕ → List Item) → List CertItem → List Pair → InputFault → Type 0
IsFirstFault cores left certificate pairs (input.Cert place fault) = (place ≡ length pairs) × (next_row certificate pairs ≡ Some (Err fault))
IsFirstFault cores left certificate pairs (input.Order place core fault) = (place ≡ length pairs) × IsOrderFault cores left certificate pairs core fault
IsFirstFault cores left certificate pairs (input.Row core seq fault) =
    (MayComeNext cores certificate pairs core seq × (next_item left pairs core ≡ Some (Err fault)))
    ⊎ ((seq ≡ taken_by pairs core) × IsLeastLeft cores left certificate pairs core (Err fault))

-- the law: if the input ends with a fault, everything before its place is good, and the fault is there
abbrev pub RefusedAtTheFirstFault : Type 0
RefusedAtTheFirstFault =
    (cores : ℕ) (left : ℕ → List Item) (certificate : List CertItem) (scanned : Scan) (fault : InputFault)
    → scan cores none_taken 0 left certificate ≡ scanned → scanned.end ≡ Err fault
    → (pairs : List Pair) × AreTaken cores left certificate pairs × (length scanned.placed ≡ length pairs) × IsFirstFault cores left certificate pairs fault

-- the converse: if everything before a place is good, and a fault is there, the input ends with it
abbrev pub FirstFaultIsRefused : Type 0
FirstFaultIsRefused =
    (cores : ℕ) (left : ℕ → List Item) (certificate : List CertItem) (scanned : Scan) (fault : InputFault) (pairs : List Pair)
    → scan cores none_taken 0 left certificate ≡ scanned → AreTaken cores left certificate pairs → IsFirstFault cores left certificate pairs fault
    → (scanned.end ≡ Err fault) × (length scanned.placed ≡ length pairs)
