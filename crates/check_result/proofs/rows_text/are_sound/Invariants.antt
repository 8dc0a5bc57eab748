use Rattle.std.proofs.Common.{◌≡◌, drop}
use Rattle.check_result.specs.RowsText.{are_sound}
use Rattle.check_result.proofs.rows_text.are_sound.Given as goal

abbrev pub invariant-loop-one : goal.invariant-loop-one
invariant-loop-one l = are_sound (drop l.one-index l.found) ≡ are_sound l.found
