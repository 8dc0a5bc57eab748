use Rattle.apex_laws.proofs.PartSets.{named_leave}
use Rattle.apex_laws.proofs.named_leave.Goals as goal

pub returns : goal.returns
returns c = named_leave
