use Rattle.std.proofs.Common.{◌≡◌, ◌+◌, ◌*◌, ◌≤◌, drop}
use Rattle.rows_check.specs.Found.{record_count}
use Rattle.rows_check.proofs.found.record_count.Given as goal

abbrev pub invariant-loop-one : goal.invariant-loop-one
invariant-loop-one l = record { so_far : l.count + record_count (drop l.one-index l.found) ≡ record_count l.found; small : l.count ≤ l.one-index * 18446744073709551616 }
