use Rattle.apex_laws.proofs.Numbers.{owned_is_found}
use Rattle.apex_laws.proofs.owned_is_found.Goals as goal

pub returns : goal.returns
returns c = owned_is_found
