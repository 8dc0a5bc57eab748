use Rattle.std.proofs.Common.{◌≡◌, ◌≤◌, ◌++◌, [], length, map, option_map, vec_len, vec_capacity}
use Rattle.record_read.specs.Row.{records_of}
use Rattle.core_intake.specs.Answered.{answered}
use Rattle.core_intake.proofs.intake.Intake.open.Given as goal

abbrev pub invariant-loop-reader : goal.invariant-loop-reader
invariant-loop-reader g l = (l.lanes.items ≡ map (λ reader. answered (option_map records_of (g.R.TextSource.remaining reader)) []) l.yielded)
    × (l.yielded ++ l.reader-iterator.rest.items ≡ l.fn.readers.items)
    × (vec_len l.lanes ≡ length l.yielded) × (length l.fn.readers.items ≤ vec_capacity l.lanes)
