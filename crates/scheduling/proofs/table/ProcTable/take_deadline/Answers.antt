-- The deadline of the one process is taken away.
use Rattle.std.proofs.Common.{rules}
use Rattle.scheduling.specs.Changes.{deadline_taken}
use Rattle.scheduling.proofs.table.ProcTable.take_deadline.Goals as goal

pub returns : goal.returns
returns c = c.change.ensures deadline_taken (λ old new ran. search rules)
