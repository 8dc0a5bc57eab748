use Rattle.std.proofs.Common.{◌≡◌, ◌≤◌, drop}
use Rattle.csv_rows.specs.Decimal.{digits_from}
use Rattle.csv_rows.proofs.decimal.read_digits.Given as goal

-- the digits that are left, after those read, write the number of the whole
abbrev pub invariant-loop-byte : goal.invariant-loop-byte
invariant-loop-byte l = (digits_from l.max 0 l.text ≡ digits_from l.max l.value (drop l.byte-index l.text)) × (l.value ≤ l.max)
