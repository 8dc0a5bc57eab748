use Rattle.std.proofs.Common.{vec_len}
use Rattle.scheduling.specs.Peers.{wakes}
use Rattle.scheduling.proofs.HandedOver.{IsHandingOut}
use Rattle.scheduling.proofs.table.ProcTable.wake_peers.Given as goal
use Rattle.apex_machine.specs.Waiting.{message_of}

abbrev pub invariant-loop-who : goal.invariant-loop-who
invariant-loop-who l = IsHandingOut l.call.who.part (wakes l.call) l.woken l.who-index l.place (message_of l.call.request) l.messages.items (vec_len l.messages) l.fn.self l.self
