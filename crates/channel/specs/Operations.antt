-- What a channel of either kind gives the caller of an operation, what it holds afterwards, and what it demands of a partition that asks
-- for its status and of a message that departs.
use Rattle.std.specs.Prelude.{ℕ, List, [], ◌∷◌, Option, Some, None, is_none, ◌||◌, IsTrue, if◌then◌else◌, pos}
use Rattle.apex_types.specs.declared.cause.Cause.TheVariants as cause
use Rattle.apex_types.specs.declared.operation.{QueuingOperation.QueuingOperation, SamplingOperation.SamplingOperation}
use Rattle.apex_types.specs.declared.record.Claim.{Claim}
use Rattle.apex_types.specs.declared.record.Crossing.{Crossing}
use Rattle.apex_types.specs.declared.record.Who.{Who}
use Rattle.apex_machine.specs.declared.state.Entry.{Entry}
use Rattle.apex_machine.specs.Answer.{Effect, NamesExactly}
use Rattle.apex_machine.specs.Demands.{Demand, answer_demands}
use Rattle.apex_machine.specs.Ports.{channel_status, sampled, written}
use Rattle.apex_machine.specs.Queue.{Messages}
use Rattle.apex_machine.specs.State.{Stamped, is_named}
use Rattle.apex_machine.specs.Statuses.{telling}
use Rattle.apex_machine.specs.Step.{IsTaken}
use Rattle.wait_set.specs.Queues.{Queue, after_arrival, after_clear, after_departure, after_receive, after_send, cleared_of, received_from, sent_to, without_waiters}
use Rattle.channel.specs.Held.{is_there}
use Rattle.wait_set.specs.declared.object.Actor.{Actor}

-- an operation on a sampling channel of this refresh period, at this time
abbrev pub sampling_effect : SamplingOperation → ℕ → ℕ → Option Stamped → Effect (Option Stamped)
sampling_effect (SamplingOperation.Write length message) now refresh last = written now message
sampling_effect SamplingOperation.Read now refresh last = sampled now refresh last

-- an operation on a queuing channel
abbrev pub queuing_effect : QueuingOperation → Queue → Effect Messages
queuing_effect (QueuingOperation.Send length time_out message) queue = sent_to message time_out queue
queuing_effect (QueuingOperation.Receive time_out) queue = received_from time_out queue
queuing_effect QueuingOperation.Clear queue = cleared_of queue

-- a queue without the processes that a record names
abbrev pub released : List Who → Queue → Queue
released woken queue = without_waiters (λ who. is_named who woken) queue

-- the queue of a queuing channel after an operation, including its waiting sets
abbrev pub queue_after : Actor → QueuingOperation → Claim → Queue → Queue
queue_after actor (QueuingOperation.Send length time_out message) claim queue = after_send actor message time_out claim queue
queue_after actor (QueuingOperation.Receive time_out) claim queue = after_receive actor time_out claim queue
queue_after actor QueuingOperation.Clear claim queue = released claim.woken (after_clear claim queue)

-- the queue of a queuing channel after the arrival of a message from outside, which names these processes
abbrev pub queue_after_arrival : List ℕ → List Who → Queue → Queue
queue_after_arrival message woken queue = released woken (after_arrival message woken queue)

-- the queue of a queuing channel after the departure of a message to the outside, which names these processes
abbrev pub queue_after_departure : List Who → Queue → Queue
queue_after_departure woken queue = released woken (after_departure woken queue)

-- the processes that wait at a partition's end of a queue between these partitions, if the partition is at one of the ends
abbrev pub waiting_between : Option ℕ → Option ℕ → ℕ → Queue → Option (List Entry)
waiting_between source destination partition queue =
    if is_there partition source then Some queue.senders.entries
    else if is_there partition destination then Some queue.receivers.entries
    else None

-- the partition is at one of the two ends, and the claim gives the number of messages and of the processes that wait there
abbrev pub asked_demands : Option ℕ → Option ℕ → ℕ → Queue → Claim → List {1} Demand
asked_demands source destination partition queue claim =
    record { cause = cause.Chan; holds = IsTrue (is_there partition source || is_there partition destination) }
    ∷ answer_demands
    (telling (Some (channel_status queue.messages (if is_there partition source then queue.senders.entries else queue.receivers.entries)))) claim

-- a departure from a queue to this destination: it is outside, the message is the oldest, and those that it wakes are named
abbrev pub leaving_demands : Option ℕ → Queue → Crossing → List {1} Demand
leaving_demands destination queue crossing =
    record { cause = cause.Chan; holds = IsTrue (is_none destination) }
    ∷ record { cause = cause.Data; holds = IsTaken (received_from (pos 0) queue).answer crossing.message }
    ∷ record { cause = cause.Woken; holds = NamesExactly (received_from (pos 0) queue).answer.woken crossing.woken } ∷ []
