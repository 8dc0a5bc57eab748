-- How a log refers to a file.
use Rattle.std.specs.Prelude.{ℕ, Bool, ◌&&◌, ◌||◌, ◌==◌, List, [], ◌∷◌, ◌++◌, codes, nat_eq, nat_le, if◌then◌else◌}
use Rattle.std.specs.List.{flat_map, starts_with}
use Rattle.percent_encoding.specs.Percent.{percent_encode_byte}

-- whether a number is from one to another
abbrev pub is_within : ℕ → ℕ → ℕ → Bool
is_within low high byte = nat_le low byte && nat_le byte high

-- whether a byte is a hyphen, a full stop, an underscore, a tilde, or a slash between folders
abbrev pub is_mark : ℕ → Bool
is_mark byte = (byte == 45) || (byte == 46) || (byte == 95) || (byte == 126) || (byte == 47)

-- whether a byte stays as it is: a digit, a letter or such a mark
abbrev pub is_kept : ℕ → Bool
is_kept byte = is_within 48 57 byte || is_within 65 90 byte || is_within 97 122 byte || is_mark byte

-- a byte in a reference: each that does not stay is a percent sign and its two hexadecimal digits
abbrev pub reference_byte : ℕ → List ℕ
reference_byte byte = if is_kept byte then byte ∷ [] else percent_encode_byte byte

-- what comes before the name of a file: the scheme if the name is absolute
abbrev pub scheme_of : List ℕ → List ℕ
scheme_of file = if starts_with nat_eq file (codes "/") then codes "file://" else []

-- the reference of a file: its name, byte by byte, after the scheme
abbrev pub reference_of : List ℕ → List ℕ
reference_of file = scheme_of file ++ flat_map reference_byte file
