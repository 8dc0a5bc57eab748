-- What a walk over a list reads at a place.
use Rattle.std.proofs.Common.{◌≡◌, ℕ, zero, suc, ◌<◌, ◌≤◌, List, [], ◌∷◌, length, get_or, ap, sym, ◌∙◌, arith}

module _ {Item Value : Type 0} (read : List Item → ℕ → Value) (later : (item : Item) (items : List Item) (place : ℕ) → read (item ∷ items) (suc place) ≡ read items place) where
  -- at a place that is there, its item's
  pub read_there : (of : Item → Value) → ((item : Item) (items : List Item) → read (item ∷ items) 0 ≡ of item)
      → (items : List Item) (place : ℕ) (found : Item) → place < length items → found ≡ get_or items place found → read items place ≡ of found
  read_there of first [] place found below at = absurd (omega arith)
  read_there of first (item ∷ items) zero found below at = first item items ∙ ap of (sym at)
  read_there of first (item ∷ items) (suc place) found below at = later item items place ∙ read_there of first items place found (omega arith) at

  -- past the last, what it reads in an empty list
  pub read_past : (none : Value) → ((place : ℕ) → read [] place ≡ none) → (items : List Item) (place : ℕ) → length items ≤ place → read items place ≡ none
  read_past none empty [] place past = empty place
  read_past none empty (item ∷ items) zero past = absurd (omega arith)
  read_past none empty (item ∷ items) (suc place) past = later item items place ∙ read_past none empty items place (omega arith)
