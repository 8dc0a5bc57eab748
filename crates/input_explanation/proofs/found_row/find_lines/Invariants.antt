use Rattle.std.proofs.Common.{◌≡◌, false}
use Rattle.input_explanation.proofs.found_row.find_lines.Given as goal

abbrev pub invariant-rows : goal.invariant-rows
invariant-rows g l = l.rows.stopped ≡ false
