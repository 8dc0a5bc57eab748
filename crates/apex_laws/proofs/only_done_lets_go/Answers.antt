use Rattle.apex_laws.proofs.EnteringSets.{only_done_lets_go}
use Rattle.apex_laws.proofs.only_done_lets_go.Goals as goal

pub returns : goal.returns
returns c = only_done_lets_go
