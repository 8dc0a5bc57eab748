use Rattle.apex_laws.proofs.Numbers.{processes_are_found}
use Rattle.apex_laws.proofs.processes_are_found.Goals as goal

pub returns : goal.returns
returns c = processes_are_found
