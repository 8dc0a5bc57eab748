-- Plain lines, which are split at their commas.
use Rattle.std.specs.Prelude.{◌≡◌, ℕ, List, [], ◌∷◌, ◌++◌, Bool, false, ◌==◌, ◌||◌, if◌then◌else◌}

-- whether a byte is a quote, a carriage return or a line feed
abbrev pub is_special : ℕ → Bool
is_special byte = byte == 34 || byte == 13 || byte == 10

-- a byte that a plain line may hold
abbrev pub IsPlain : ℕ → Type 0
IsPlain byte = is_special byte ≡ false

-- the fields of a plain line, the first of which begins with these bytes
unfoldable pub split_after : List ℕ → List ℕ → List (List ℕ)
split_after field [] = field ∷ []
split_after field (byte ∷ line) = if byte == 44 then field ∷ split_after [] line else split_after (field ++ (byte ∷ [])) line

-- the fields of a plain line: what is between its commas
abbrev pub split : List ℕ → List (List ℕ)
split line = split_after [] line
