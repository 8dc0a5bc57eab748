use Rattle.apex_laws.proofs.LockStays.{refused_leaves_lock}
use Rattle.apex_laws.proofs.refused_leaves_lock.Goals as goal

pub returns : goal.returns
returns c = refused_leaves_lock
