-- The outcome of the returner alone is cleared.
use Rattle.std.proofs.Common.{None, rules}
use Rattle.scheduling.proofs.table.ProcTable.ret.Goals as goal

pub returns : goal.returns
returns c = c.change.ensures (λ process. record process { due = None }) (λ old new ran. search rules)
