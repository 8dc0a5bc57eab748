use Rattle.std.proofs.Common.{◌≡◌, [], false, rules, slice_get, true}
use Rattle.std.specs.Option.{is_some}
use Rattle.apex_machine.specs.Demands.{AllHold, answer_demands}
use Rattle.wait_set.specs.Actors.{joined_by}
use Rattle.wait_set.specs.Sets.{Waiters}
use Rattle.wait_set.proofs.queue.MessageQueue.receive.Goals as goal
use Rattle.wait_set.proofs.Receiving.{after_none, after_taking}
use Rattle.wait_set.specs.Queues.{first_of, received_from}

pub returns-then-is_some-clause-after : goal.returns-then-is_some-clause-after
returns-then-is_some-clause-after c =
    let time_out = c.args.time_out in
    let queue = c.args.self.now in
    let claim = c.args.claim.now in
    let holds : AllHold (answer_demands (received_from time_out queue).answer claim) = search rules in
    let receivers : Waiters = record queue.receivers { entries = joined_by c.args.actor claim [] queue.receivers.entries } in
    let some : is_some (slice_get queue.messages 0) ≡ true = search rules in
    let taken = after_taking time_out claim.woken queue receivers (first_of queue.senders) queue.messages some holds.1.1.1.0 in
    search rules

pub returns-else-is_some-clause-after : goal.returns-else-is_some-clause-after
returns-else-is_some-clause-after c =
    let time_out = c.args.time_out in
    let queue = c.args.self.now in
    let claim = c.args.claim.now in
    let holds : AllHold (answer_demands (received_from time_out queue).answer claim) = search rules in
    let receivers : Waiters = record queue.receivers { entries = joined_by c.args.actor claim [] queue.receivers.entries } in
    let none : is_some (slice_get queue.messages 0) ≡ false = search rules in
    let kept = after_none time_out claim.woken queue receivers (first_of queue.senders) queue.messages none holds.1.1.1.0 in
    search rules
