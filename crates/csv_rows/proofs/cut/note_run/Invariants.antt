use Rattle.std.proofs.Common.{◌≤◌, ◌+◌, ◌-◌, vec_capacity, vec_len}
use Rattle.csv_rows.specs.Pieces.{IsSeen}
use Rattle.csv_rows.proofs.Masks.{AreCommas}
use Rattle.csv_rows.proofs.cut.note_run.Given as goal

-- the marks that are left are of the commas from this place on, the bytes before it were seen, and each comma that may come has room
abbrev pub invariant-marks : goal.invariant-marks
invariant-marks l = record {
  low : l.at ≤ l.place;
  within : l.place ≤ l.at + l.plain;
  seen : IsSeen l.text l.ends.items l.place;
  commas : AreCommas l.text l.place (l.at + l.plain) l.left;
  room : vec_len l.ends + (l.at + l.plain) ≤ vec_capacity l.ends + l.place;
}

abbrev pub decreases-marks : goal.decreases-marks
decreases-marks l = l.at + l.plain - l.place
