-- The values that operations give, as numbers.
use Rattle.std.specs.Prelude.{ℤ, pos}
use Rattle.wait_set.specs.declared.value.GivenValue.{GivenValue}
use Rattle.wait_set.specs.declared.value.GivenValue.TheVariants.{Natural, BelowZero}

-- a value that an operation gives, as a number
abbrev pub value_given : GivenValue → ℤ
value_given (Natural number) = pos number
value_given (BelowZero number) = number
