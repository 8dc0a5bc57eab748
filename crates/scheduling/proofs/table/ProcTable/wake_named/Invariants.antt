use Rattle.std.proofs.Common.{true, vec_len}
use Rattle.scheduling.proofs.HandedOver.{IsHandingOut}
use Rattle.scheduling.proofs.table.ProcTable.wake_named.Given as goal

abbrev pub invariant-loop-who : goal.invariant-loop-who
invariant-loop-who l = IsHandingOut l.part (λ number. true) l.woken l.who-index l.place l.message l.messages.items (vec_len l.messages) l.fn.self l.self
