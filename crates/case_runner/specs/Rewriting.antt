-- Recordings written in the other format.
use Rattle.std.specs.Prelude.{ℕ, List, [], ◌∷◌, ◌++◌, Bool, true, false, not, codes, nat_eq, ◌&&◌, if◌then◌else◌}

-- two empty fields if the line so far is not empty, and else nothing
abbrev pub fields_after : Bool → List ℕ
fields_after true = codes ",,"
fields_after false = []

-- a text with two empty fields at the end of each line that is not empty, given whether the line so far is empty or not
abbrev pub widened : Bool → List ℕ → List ℕ
widened filled [] = fields_after filled
widened filled (byte ∷ bytes) = fields_after (nat_eq byte 10 && filled) ++ byte ∷ widened (not (nat_eq byte 10)) bytes
