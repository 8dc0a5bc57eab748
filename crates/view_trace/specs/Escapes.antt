-- The bytes that JSON does not allow in a string as they are.
use Rattle.std.specs.Prelude.{ℕ, Bool, ◌||◌, ◌==◌, nat_lt}

-- whether a byte is escaped: a control character, a quotation mark or a backslash
abbrev pub is_escaped : ℕ → Bool
is_escaped byte = nat_lt byte 32 || (byte == 34) || (byte == 92)
