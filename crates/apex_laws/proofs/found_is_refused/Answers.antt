use Rattle.apex_laws.proofs.Joins.{found_is_refused}
use Rattle.apex_laws.proofs.found_is_refused.Goals as goal

pub returns : goal.returns
returns c = found_is_refused
