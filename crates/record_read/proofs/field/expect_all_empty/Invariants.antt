use Rattle.std.proofs.Common.{◌≡◌, drop}
use Rattle.record_read.specs.Field.{all_empty}
use Rattle.record_read.proofs.field.expect_all_empty.Given as goal

abbrev pub invariant-loop-column : goal.invariant-loop-column
invariant-loop-column l = all_empty l.fields l.columns ≡ all_empty l.fields (drop l.column-index l.columns)
