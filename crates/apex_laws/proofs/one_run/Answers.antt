use Rattle.apex_laws.proofs.Runs.{one_run}
use Rattle.apex_laws.proofs.one_run.Goals as goal

pub returns : goal.returns
returns c = one_run
