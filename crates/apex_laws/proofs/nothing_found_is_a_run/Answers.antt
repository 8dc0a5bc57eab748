use Rattle.apex_laws.proofs.Joins.{nothing_found_is_a_run}
use Rattle.apex_laws.proofs.nothing_found_is_a_run.Goals as goal

pub returns : goal.returns
returns c = nothing_found_is_a_run
