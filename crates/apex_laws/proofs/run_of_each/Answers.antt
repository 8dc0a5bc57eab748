use Rattle.apex_laws.proofs.Runs.{run_of_each}
use Rattle.apex_laws.proofs.run_of_each.Goals as goal

pub returns : goal.returns
returns c = run_of_each
