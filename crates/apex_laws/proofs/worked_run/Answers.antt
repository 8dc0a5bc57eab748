use Rattle.apex_laws.proofs.WorkedRun.{worked_run}
use Rattle.apex_laws.proofs.worked_run.Goals as goal

pub returns : goal.returns
returns c = worked_run
