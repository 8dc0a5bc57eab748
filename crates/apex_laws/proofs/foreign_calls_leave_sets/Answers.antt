use Rattle.apex_laws.proofs.LeavingSets.{foreign_calls_leave_sets}
use Rattle.apex_laws.proofs.foreign_calls_leave_sets.Goals as goal

pub returns : goal.returns
returns c = foreign_calls_leave_sets
