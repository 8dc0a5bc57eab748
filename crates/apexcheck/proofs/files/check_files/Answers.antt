use Rattle.std.proofs.Common.{inr}
use Rattle.apexcheck.proofs.files.check_files.Goals as goal

pub returns-in-Ok : goal.returns-in-Ok
returns-in-Ok g c = inr (inr (c.in-Ok.opened, c.in-Ok.ensures.opened, c.check.ensures))
