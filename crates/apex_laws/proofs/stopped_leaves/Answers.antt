use Rattle.apex_laws.proofs.LeavingSets.{stopped_leaves}
use Rattle.apex_laws.proofs.stopped_leaves.Goals as goal

pub returns : goal.returns
returns c = stopped_leaves
