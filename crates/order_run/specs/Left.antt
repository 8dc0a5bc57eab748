-- The items that the recordings of all cores have left.
use Rattle.std.specs.Prelude.{◌≡◌, ◌≢◌, ℕ, zero, suc, List, [], ◌∷◌, ◌++◌, Option, Some, None, Ok, IfSome, get_or, length, map}
use Rattle.std.specs.Option.{option_map}
use Rattle.apex_types.specs.declared.record.Ordered.{Ordered}
use Rattle.apex_types.specs.declared.record.Record.{Record}
use Rattle.record_read.specs.Row.{Item, records_of}

-- the items that each core's recording has left, core 0 first; None where its bytes are not known
abbrev pub Lefts : Type 0
Lefts = List (Option (List Item))

-- the items that the recording of a core has left: none where there is no such core
abbrev pub left_at : Lefts → ℕ → Option (List Item)
left_at lefts core = get_or lefts core (Some [])

-- the items of the text of a core's recording: none where there is no such core
abbrev pub items_at : List (List ℕ) → ℕ → List Item
items_at [] core = []
items_at (text ∷ texts) zero = records_of text
items_at (text ∷ texts) (suc core) = items_at texts core

-- records that were read ahead, followed by these items
abbrev pub followed_by : List Ordered → List Item → List Item
followed_by ahead items = map (λ ordered. Ok ordered.rec) ahead ++ items

-- the items that a recording has left, with the records that were read ahead; never known where its bytes were not known at first
abbrev pub left_since : Option (List ℕ) → List Ordered → Option (List Item) → Option (List Item)
left_since None ahead left = None
left_since (Some bytes) ahead left = option_map (followed_by ahead) left

-- the items that a recording has left are still known, where its bytes were known at first
abbrev pub IsStillKnown : Option (List ℕ) → Option (List Item) → Type 0
IsStillKnown None left = Unit {0}
IsStillKnown (Some bytes) None = ⊥
IsStillKnown (Some bytes) (Some items) = Unit {0}

-- the first of these items, a record, was taken; or there was no item
abbrev pub TakesFirst : List Item → Option Record → Option (List Item) → Type 0
TakesFirst items (Some rec) left = (rest : List Item) × (items ≡ Ok rec ∷ rest) × (left ≡ Some rest)
TakesFirst items None left = (items ≡ []) × (left ≡ Some [])

-- the same of a recording, where its items are known
abbrev pub Takes : Option (List Item) → Option Record → Option (List Item) → Type 0
Takes None made new = new ≡ None
Takes (Some items) made new = TakesFirst items made new

-- the next record of a core was taken, or its recording has ended; the other recordings have the same items left
pub record IsTaken (core : ℕ) (old : Lefts) (made : Option Record) (new : Lefts) : Type 0 where
  pub takes : Takes (left_at old core) made (left_at new core)
  pub others : (other : ℕ) → other ≢ core → left_at new other ≡ left_at old other
  pub count : length new ≡ length old

-- the recording of a core has ended
abbrev pub HasEnded : Lefts → ℕ → Type 0
HasEnded lefts core = IfSome (left_at lefts core) (λ items. items ≡ [])
