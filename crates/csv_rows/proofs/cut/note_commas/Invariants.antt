use Rattle.std.proofs.Common.{◌-◌, length}
use Rattle.csv_rows.specs.Pieces.{IsSeen}
use Rattle.csv_rows.proofs.cut.note_commas.Given as goal

abbrev pub invariant-runs : goal.invariant-runs
invariant-runs l = IsSeen l.text l.ends.items l.at

abbrev pub decreases-runs : goal.decreases-runs
decreases-runs l = length l.text - l.at
