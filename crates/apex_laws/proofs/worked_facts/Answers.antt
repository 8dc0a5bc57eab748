use Rattle.apex_laws.proofs.WorkedRun.{worked_facts}
use Rattle.apex_laws.proofs.worked_facts.Goals as goal

pub returns : goal.returns
returns c = worked_facts
