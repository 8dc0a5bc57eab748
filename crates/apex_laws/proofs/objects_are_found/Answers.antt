use Rattle.apex_laws.proofs.Numbers.{objects_are_found}
use Rattle.apex_laws.proofs.objects_are_found.Goals as goal

pub returns : goal.returns
returns c = objects_are_found
