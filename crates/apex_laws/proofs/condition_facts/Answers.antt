use Rattle.apex_laws.proofs.WorkedRun.{condition_facts}
use Rattle.apex_laws.proofs.condition_facts.Goals as goal

pub returns : goal.returns
returns c = condition_facts
