use Rattle.std.proofs.Common.{◌-◌, length}
use Rattle.wait_set.proofs.Clearing.{Clearing}
use Rattle.wait_set.proofs.queue.MessageQueue.clear.Given as goal

-- the messages of the first senders for which there is room still move up
abbrev pub invariant-senders : goal.invariant-senders
invariant-senders l = Clearing l.claim.woken l.fn.self l.self

abbrev pub decreases-senders : goal.decreases-senders
decreases-senders l = l.self.capacity - length l.self.messages
