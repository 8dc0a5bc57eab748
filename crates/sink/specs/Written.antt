-- How much of a text went out in the end.
use Rattle.std.specs.Prelude.{◌≡◌, ◌++◌, ℕ, List, [], ◌∷◌, Option}
use Rattle.std.specs.Borrow.{Bor}
use Rattle.sink.specs.Taken.{with_more}

-- the whole text went out
abbrev pub IsWritten : Option (List ℕ) → List ℕ → Option (List ℕ) → Type 0
IsWritten before text after = after ≡ with_more before text

-- the first bytes of the text went out, and no others
abbrev pub IsCut : Option (List ℕ) → List ℕ → Option (List ℕ) → Type 0
IsCut before text after = (front : List ℕ) × (back : List ℕ) × (text ≡ front ++ back) × (after ≡ with_more before front)

-- the text that its parts make, in their order
abbrev pub joined : List (Bor (List ℕ)) → List ℕ
joined [] = []
joined (part ∷ parts) = part.now ++ joined parts
