use Rattle.std.proofs.Common.{◌≡◌, false}
use Rattle.rows_check.proofs.Progress.{HasReadKnown}
use Rattle.rows_check.proofs.found.find_in.Given as goal

abbrev pub invariant-loop-records : goal.invariant-loop-records
invariant-loop-records g l = record { going : l.rows.stopped ≡ false; read : HasReadKnown (g.R.TextSource.remaining l.fn.source) l.records l.rows.left }
