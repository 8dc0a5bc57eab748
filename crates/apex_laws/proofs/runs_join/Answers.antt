use Rattle.apex_laws.proofs.Joins.{runs_join}
use Rattle.apex_laws.proofs.runs_join.Goals as goal

pub returns : goal.returns
returns c = runs_join
