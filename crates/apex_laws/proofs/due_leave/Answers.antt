use Rattle.apex_laws.proofs.LeavingSets.{due_leave}
use Rattle.apex_laws.proofs.due_leave.Goals as goal

pub returns : goal.returns
returns c = due_leave
