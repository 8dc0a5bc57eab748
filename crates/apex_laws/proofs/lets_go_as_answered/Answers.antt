use Rattle.apex_laws.proofs.EnteringSets.{lets_go_as_answered}
use Rattle.apex_laws.proofs.lets_go_as_answered.Goals as goal

pub returns : goal.returns
returns c = lets_go_as_answered
