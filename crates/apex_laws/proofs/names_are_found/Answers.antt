use Rattle.apex_laws.proofs.Numbers.{names_are_found}
use Rattle.apex_laws.proofs.names_are_found.Goals as goal

pub returns : goal.returns
returns c = names_are_found
