use Rattle.scheduling.proofs.CoreTimes.{time_fits}
use Rattle.scheduling.proofs.table.changes.time_at.Goals as goal

pub returns-clause-below : goal.returns-clause-below
returns-clause-below c = rw c.time_of.ensures (time_fits c.args.cores.now c.args.core c.requires)
