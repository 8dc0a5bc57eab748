use Rattle.std.proofs.Common.{inr, refl}
use Rattle.apexcheck.proofs.rows_alone.end_of_rows.Goals as goal

pub returns-in-Ok : goal.returns-in-Ok
returns-in-Ok g c = inr (c.in-Ok.found, refl, c.in-Ok.ensures)
