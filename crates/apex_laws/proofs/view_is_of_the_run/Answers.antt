use Rattle.apex_laws.proofs.Viewed.{view_is_of_the_run}
use Rattle.apex_laws.proofs.view_is_of_the_run.Goals as goal

pub returns : goal.returns
returns c = view_is_of_the_run
