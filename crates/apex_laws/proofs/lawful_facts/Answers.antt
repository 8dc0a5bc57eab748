use Rattle.apex_laws.proofs.WorkedRun.{lawful_facts}
use Rattle.apex_laws.proofs.lawful_facts.Goals as goal

pub returns : goal.returns
returns c = lawful_facts
