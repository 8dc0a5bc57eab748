use Rattle.apex_laws.proofs.Viewed.{views_are_of_the_run}
use Rattle.apex_laws.proofs.views_are_of_the_run.Goals as goal

pub returns : goal.returns
returns c = views_are_of_the_run
