-- A copy of a table.
use Rattle.std.proofs.Common.{◌≡◌, ◌∙◌, ℕ, List, [], ◌∷◌, ap, refl}
use Rattle.partition_objects.specs.Copies.{AreCopies, CopiesAreSame}
use Rattle.partition_objects.specs.Numbers.{NumbersFit}

-- its numbers fit 32 bits if those of the table do
pub numbers_of_copies : {Object : Type 0} (IsCopy : Object → Object → Type 0) (table copy : List (ℕ × Object)) → AreCopies IsCopy table copy
    → NumbersFit table → NumbersFit copy
numbers_of_copies IsCopy [] [] copies fit = tt
numbers_of_copies IsCopy [] (other ∷ others) copies fit = absurd copies
numbers_of_copies IsCopy (entry ∷ entries) [] copies fit = absurd copies
numbers_of_copies IsCopy (entry ∷ entries) (other ∷ others) copies fit =
    (rw copies.0.0 fit.0, numbers_of_copies IsCopy entries others copies.1 fit.1)

-- it is the table if each copy of an object is that object
pub copies_are_same : {Object : Type 0} (IsCopy : Object → Object → Type 0) → CopiesAreSame IsCopy
    → (table copy : List (ℕ × Object)) → AreCopies IsCopy table copy → copy ≡ table
copies_are_same IsCopy same [] [] copies = refl
copies_are_same IsCopy same [] (other ∷ others) copies = absurd copies
copies_are_same IsCopy same (entry ∷ entries) [] copies = absurd copies
copies_are_same IsCopy same (entry ∷ entries) (other ∷ others) copies =
    ap (λ number. (number, other.1) ∷ others) copies.0.0 ∙ ap (λ object. (entry.0, object) ∷ others) (same entry.1 other.1 copies.0.1)
    ∙ ap (λ rest. entry ∷ rest) (copies_are_same IsCopy same entries others copies.1)
