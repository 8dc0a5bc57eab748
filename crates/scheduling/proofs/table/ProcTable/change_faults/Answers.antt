-- A call that makes nobody faulted leaves the processes.
use Rattle.scheduling.proofs.Faults.{unchanged}
use Rattle.scheduling.proofs.table.ProcTable.change_faults.Goals as goal

pub returns-in-Unchanged : goal.returns-in-Unchanged
returns-in-Unchanged c = rw c.in-Unchanged.is (unchanged c.args.self.now)
