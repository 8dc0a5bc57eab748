-- What the front of a text is.
use Rattle.std.specs.Prelude.{◌≡◌, ◌⊎◌, ◌<◌, ◌≤◌, ⊤, ℕ, List, ◌∷◌, All, drop, length, slice_index, take}
use Rattle.csv_rows.specs.Line.{IsPlain, split}
use Rattle.csv_rows.specs.declared.front.Front.{Front}
use Rattle.csv_rows.specs.declared.front.Front.TheVariants as front

-- a line ends here: with a line feed, or with a carriage return and a line feed; `rest` comes after it
abbrev pub EndsLine : List ℕ → List ℕ → Type 0
EndsLine text rest = (text ≡ 10 ∷ rest) ⊎ (text ≡ 13 ∷ 10 ∷ rest)

-- the front of a text is a plain line of this length, which takes up this many bytes including its end
pub record IsLine (text : List ℕ) (length_of taken : ℕ) : Type 0 where
  pub plain : All IsPlain (take length_of text)
  pub ends : EndsLine (drop length_of text) (drop taken text)
  pub longer : length_of < taken
  pub bounded : taken ≤ length text

-- some byte of a text is not plain
abbrev pub HasSpecial : List ℕ → Type 0
HasSpecial text = (place : ℕ) × (place < length text) × ¬ IsPlain (slice_index text place)

-- enough of a text is known to see whether it begins with a byte order mark
abbrev pub IsSettled : List ℕ → Type 0
IsSettled text = HasSpecial text ⊎ (3 ≤ length text)

-- the fields of a plain line at the front of a text, or of the whole text if it is plain
abbrev pub HasFields : List ℕ → Front → List (List ℕ) → Type 0
HasFields text (front.Line line) fields = fields ≡ split (take line.length text)
HasFields text front.Open fields = fields ≡ split text
HasFields text front.Return fields = ⊤
HasFields text front.Other fields = ⊤

-- what the front of a text is, if only this text is known
abbrev pub IsFront : List ℕ → Front → Type 0
IsFront text (front.Line line) = IsLine text line.length line.taken
IsFront text front.Open = All IsPlain text
IsFront text front.Return = HasSpecial text
IsFront text front.Other = IsSettled text
