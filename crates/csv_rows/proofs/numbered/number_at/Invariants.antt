use Rattle.std.proofs.Common.{◌≤◌, ◌-◌, length}
use Rattle.csv_rows.proofs.Numbers.{IsReadTo}
use Rattle.csv_rows.proofs.numbered.number_at.Given as goal

-- the digits so far are read as the number, which has at most nine of them
abbrev pub invariant-digits : goal.invariant-digits
invariant-digits l = record {
  read : IsReadTo l.text l.digits l.number;
  short : l.number ≤ 999999999;
}

abbrev pub decreases-digits : goal.decreases-digits
decreases-digits l = length l.text - l.digits
