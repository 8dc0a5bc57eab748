use Rattle.std.proofs.Common.{◌≡◌, false}
use Rattle.part_tests.proofs.rows.pairs_of.Given as goal

abbrev pub invariant-turns : goal.invariant-turns
invariant-turns l = l.rows.stopped ≡ false
