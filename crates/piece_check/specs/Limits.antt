-- Limits of numbers.
use Rattle.std.specs.Prelude.{ℕ}

-- the sum of two unsigned numbers of 64 bits is below this, which is 2 to the 65th
abbrev pub sum_limit : ℕ
sum_limit = 36893488147419103232
