-- The numbers of objects.
use Rattle.std.specs.Prelude.{ℕ, ◌<◌, ◌^◌, List, [], ◌∷◌, Option, Some, None, ℤ, pos, negsuc, nat_lt, if◌then◌else◌}

-- each number fits 32 bits
abbrev pub NumbersFit : {Object : Type 0} → List (ℕ × Object) → Type 0
NumbersFit [] = Unit {0}
NumbersFit (entry ∷ entries) = (entry.0 < 2 ^ 32) × NumbersFit entries

-- the object number that a caller's number gives, if it fits 32 bits
abbrev pub number_of : ℤ → Option ℕ
number_of (pos n) = if nat_lt n 4294967296 then Some n else None
number_of (negsuc n) = None
