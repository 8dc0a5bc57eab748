-- What a choice is among.
use Rattle.std.specs.Prelude.{◌<◌, ℕ}
use Rattle.order_search.specs.declared.choice.Choice.{Choice}
use Rattle.order_search.specs.declared.choice.Choice.TheVariants.{Free, Shared, AtEnd, Blocked}

-- a choice of a core is one of so many cores
abbrev pub IsWithin : ℕ → Choice → Type 0
IsWithin cores (Free core) = core < cores
IsWithin cores (Shared core) = core < cores
IsWithin cores AtEnd = Unit {0}
IsWithin cores Blocked = Unit {0}
