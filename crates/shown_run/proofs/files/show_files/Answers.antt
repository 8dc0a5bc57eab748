use Rattle.std.proofs.Common.{inr}
use Rattle.shown_run.proofs.files.show_files.Goals as goal

pub returns-in-Ok : goal.returns-in-Ok
returns-in-Ok g c = inr (inr (c.in-Ok.opened, c.in-Ok.ensures.opened, c.show.ensures))
