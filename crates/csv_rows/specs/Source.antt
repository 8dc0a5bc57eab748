-- A source of items: the rows of a text, each judged by its number and its fields.
use Rattle.std.specs.Prelude.{◌≡◌, ◌⊎◌, ℕ, suc, List, [], ◌∷◌, Bool, Option, Some, None, Result, Ok, Err}
use Rattle.csv_rows.specs.Stream.{Fields, rows_of}

-- what callers see of a source: whether a fault has stopped it, whether its end was reported, whether the source of the text has failed,
-- whether its rows stopped without a failed read, and the items that are left, if the bytes are known
pub record Source (Item : Type 0) : Type 0 where
  pub stopped : Bool
  pub ended : Bool
  pub failed : Bool
  pub starved : Bool
  pub left : Option (List Item)

-- the items of successive rows, the first of which has this number
abbrev pub items_from : {Item : Type 0} → (ℕ → Fields → Item) → ℕ → List Fields → List Item
items_from item number [] = []
items_from item number (fields ∷ rest) = item number fields ∷ items_from item (suc number) rest

-- the items of a text: its rows are numbered from 0
abbrev pub items_of : {Item : Type 0} → (ℕ → Fields → Item) → List ℕ → List Item
items_of item text = items_from item 0 (rows_of text)

-- an answer is the first item that is left, or a fault from outside the text
abbrev pub Gives : {Value Fault : Type 0} → (Fault → Type 0) → List (Result Value Fault) → Result (Option Value) Fault → Option (List (Result Value Fault)) → Type 0
Gives outside items (Ok None) left = (items ≡ []) × (left ≡ Some [])
Gives {Value} {Fault} outside items (Ok (Some value)) left = (rest : List (Result Value Fault)) × (items ≡ Ok value ∷ rest) × (left ≡ Some rest)
Gives {Value} {Fault} outside items (Err fault) left = outside fault ⊎ ((rest : List (Result Value Fault)) × (items ≡ Err fault ∷ rest))
