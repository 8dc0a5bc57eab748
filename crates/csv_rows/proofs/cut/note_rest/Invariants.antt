use Rattle.csv_rows.specs.Pieces.{IsSeen}
use Rattle.csv_rows.proofs.cut.note_rest.Given as goal

abbrev pub invariant-loop-place : goal.invariant-loop-place
invariant-loop-place l = IsSeen l.text l.ends.items l.place
