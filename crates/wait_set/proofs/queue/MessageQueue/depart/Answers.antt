use Rattle.std.proofs.Common.{◌≡◌, pos, false, rules, slice_get, true}
use Rattle.std.specs.Option.{is_some}
use Rattle.wait_set.proofs.queue.MessageQueue.depart.Goals as goal
use Rattle.wait_set.proofs.Receiving.{after_none, after_taking}
use Rattle.wait_set.specs.Queues.{first_of}

pub returns-then-is_some : goal.returns-then-is_some
returns-then-is_some c =
    let queue = c.args.self.now in
    let some : is_some (slice_get queue.messages 0) ≡ true = search rules in
    let taken = after_taking (pos 0) c.args.woken.now queue queue.receivers (first_of queue.senders) queue.messages some c.requires.given in
    search rules

pub returns-else-is_some : goal.returns-else-is_some
returns-else-is_some c =
    let queue = c.args.self.now in
    let none : is_some (slice_get queue.messages 0) ≡ false = search rules in
    let kept = after_none (pos 0) c.args.woken.now queue queue.receivers (first_of queue.senders) queue.messages none c.requires.given in
    search rules
