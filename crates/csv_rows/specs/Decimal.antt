-- Canonical decimals.
use Rattle.std.specs.Prelude.{ℕ, zero, suc, ℤ, pos, negsuc, List, [], ◌∷◌, ◌+◌, ◌*◌, ◌-◌, ◌==◌, ◌&&◌, nat_lt, nat_le, Option, Some, None, length, if◌then◌else◌, option_map, option_and_then}
use Rattle.std.specs.Char.{is_ascii_digit}

-- the number that these digits write after those that wrote `value`, if it is at most max
unfoldable pub digits_from : ℕ → ℕ → List ℕ → Option ℕ
digits_from max value [] = Some value
digits_from max value (b ∷ bs) =
    if is_ascii_digit b && nat_le (value * 10 + (b - 48)) max then digits_from max (value * 10 + (b - 48)) bs else None

-- a number that is at most max: one digit or more, without a leading zero
unfoldable pub decimal : ℕ → List ℕ → Option ℕ
decimal max [] = None
decimal max (b ∷ bs) = if (b == 48) && nat_lt 0 (length bs) then None else digits_from max 0 (b ∷ bs)

-- the number below zero of this size, or none for size zero: there is no `-0`
abbrev pub negated : ℕ → Option ℤ
negated zero = None
negated (suc n) = Some (negsuc n)

-- a signed number of 64 bits: a decimal, or `-` and the decimal of a number that is not zero
unfoldable pub signed_decimal : List ℕ → Option ℤ
signed_decimal [] = None
signed_decimal (b ∷ bs) =
    if b == 45 then option_and_then negated (decimal 0x8000000000000000 bs) else option_map pos (decimal 0x7FFFFFFFFFFFFFFF (b ∷ bs))
