-- A text is handed over to `csv` once.
use Rattle.csv_rows.specs.Text.{hand_overs_left}
use Rattle.csv_rows.proofs.text.+take_row.Given as goal

abbrev pub decreases-take_row : goal.decreases-take_row
decreases-take_row g l = hand_overs_left l.text.now
