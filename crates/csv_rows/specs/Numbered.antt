-- Rows with numbers, which are taken straight from the bytes that were read ahead.
use Rattle.std.specs.Prelude.{◌≡◌, ◌<◌, ◌≤◌, ◌+◌, ℕ, List, [], ◌∷◌, true, Option, Some, IfSome, All, length, take}
use Rattle.std.specs.Char.{is_ascii_digit}
use Rattle.csv_rows.specs.Decimal.{decimal}
use Rattle.csv_rows.specs.Front.{IsLine}
use Rattle.csv_rows.specs.Line.{split}
use Rattle.csv_rows.specs.Stream.{Fields, Takes}

-- a text is the canonical decimal of a number: it is read as this number wherever a number so great is allowed
abbrev pub Writes : List ℕ → ℕ → Type 0
Writes text number = (max : ℕ) → number ≤ max → decimal max text ≡ Some number

-- a row of two numbers
pub record IsPair (pair : ℕ × ℕ) (fields : Fields) : Type 0 where
  pub first : List ℕ
  pub second : List ℕ
  pub are : fields ≡ first ∷ second ∷ []
  pub writes_first : Writes first pair.0
  pub writes_second : Writes second pair.1

-- a row of a number and, after it, the fields of a plain line
pub record IsNumbered (number : ℕ) (line : List ℕ) (fields : Fields) : Type 0 where
  pub first : List ℕ
  pub are : fields ≡ first ∷ split line
  pub writes : Writes first number

-- the first of some rows was taken, and it is such a row
abbrev pub TakesSuch : (Fields → Type 0) → List Fields → Option (List Fields) → Type 0
TakesSuch Is rows left = (fields : Fields) × Is fields × Takes true rows fields left

-- the same, if the rows are known
abbrev pub TakesKnown : (Fields → Type 0) → Option (List Fields) → Option (List Fields) → Type 0
TakesKnown Is before after = IfSome before (λ rows. TakesSuch Is rows after)

-- a text begins with these many digits, which are the canonical decimal of a number
pub record IsNumberAt (text : List ℕ) (number digits : ℕ) : Type 0 where
  pub within : digits ≤ length text
  pub are : All (λ byte. is_ascii_digit byte ≡ true) (take digits text)
  pub writes : Writes (take digits text) number

-- a text begins with a plain line that is such a row, and that takes up this many bytes including its end
pub record IsRowAt (Is : Fields → Type 0) (text : List ℕ) (taken : ℕ) : Type 0 where
  pub length_of : ℕ
  pub line : IsLine text length_of taken
  pub filled : 0 < length_of
  pub is : Is (split (take length_of text))
