use Rattle.std.proofs.Common.{◌≡◌, ◌++◌}
use Rattle.wait_set.proofs.queue.copied.Given as goal

-- the copies of the messages before, and the messages that are left
abbrev pub invariant-loop-message : goal.invariant-loop-message
invariant-loop-message l =
    (goal.iterator-loop-message).can_next l.message-iterator
    × (l.copies.capacity ≡ l.messages.capacity)
    × (l.copies.items ++ l.message-iterator ≡ l.messages.items)
