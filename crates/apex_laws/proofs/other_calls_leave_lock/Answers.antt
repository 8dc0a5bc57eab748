use Rattle.apex_laws.proofs.LockStays.{other_calls_leave_lock}
use Rattle.apex_laws.proofs.other_calls_leave_lock.Goals as goal

pub returns : goal.returns
returns c = other_calls_leave_lock
