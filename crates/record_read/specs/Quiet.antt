-- Ticks that end no wait, which are read without a look at each column.
use Rattle.std.specs.Prelude.{ℕ, List, [], codes}
use Rattle.apex_types.specs.declared.format.Format.{Format}
use Rattle.apex_types.specs.declared.format.Format.TheVariants as format
use Rattle.apex_types.specs.declared.record.Body.TheVariants as body
use Rattle.apex_types.specs.declared.record.Record.{Record}

-- the row of such a tick after its number: the kind, and each other field empty
abbrev pub quiet_line : Format → List ℕ
quiet_line format.One = codes "tick,,,,,,,,,,,,,,"
quiet_line format.Two = codes "tick,,,,,,,,,,,,,,,,"
quiet_line format.Three = codes "tick,,,,,,,,,,,,,,,,,"

-- the tick of this number that ends no wait
abbrev pub quiet_tick : ℕ → Record
quiet_tick number = record { seq = number; body = body.Tick [] }
