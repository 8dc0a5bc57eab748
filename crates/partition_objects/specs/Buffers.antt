-- What each operation on a buffer gives its caller, and the buffer after it.
use Rattle.std.specs.Prelude.{ℕ, List, [], ◌∷◌}
use Rattle.apex_types.specs.declared.operation.{BufferOperation.BufferOperation}
use Rattle.apex_types.specs.declared.record.Claim.{Claim}
use Rattle.apex_types.specs.declared.record.Who.{Who}
use Rattle.apex_machine.specs.declared.state.Entry.{Entry}
use Rattle.apex_machine.specs.Answer.{Answer}
use Rattle.apex_machine.specs.Objects.{buffer_effect}
use Rattle.apex_machine.specs.State.{Buffer}
use Rattle.wait_set.specs.Queues.{Queue}
use Rattle.wait_set.specs.declared.object.Actor.{Actor}
use Rattle.wait_set.specs.Actors.{joined_by, left_by}
use Rattle.wait_set.specs.Sets as waiters

-- the buffer of this name and size that has this queue
abbrev pub buffer_of : List ℕ → ℕ → Queue → Buffer
buffer_of name size queue = record {
  name = name;
  size = size;
  capacity = queue.capacity;
  discipline = queue.senders.discipline;
  messages = queue.messages;
  senders = queue.senders.entries;
  receivers = queue.receivers.entries;
}

-- what an operation gives its caller
abbrev pub answer : Actor → BufferOperation → Buffer → Answer
answer actor operation found = (buffer_effect operation found).answer

-- the processes that wait to send after an operation: SEND_BUFFER adds a caller that waits, with its message
abbrev pub senders_after : Actor → BufferOperation → Claim → List Entry → List Entry
senders_after actor (BufferOperation.Send length time_out message) claim entries = joined_by actor claim message entries
senders_after actor (BufferOperation.Receive time_out) claim entries = left_by claim entries

-- the processes that wait to receive after an operation: RECEIVE_BUFFER adds a caller that waits
abbrev pub receivers_after : Actor → BufferOperation → Claim → List Entry → List Entry
receivers_after actor (BufferOperation.Send length time_out message) claim entries = left_by claim entries
receivers_after actor (BufferOperation.Receive time_out) claim entries = joined_by actor claim [] entries

-- the buffer after an operation
abbrev pub after : Actor → BufferOperation → Claim → Buffer → Buffer
after actor operation claim found = record (buffer_effect operation found).next {
  senders = senders_after actor operation claim found.senders;
  receivers = receivers_after actor operation claim found.receivers;
}

-- its two waiting sets
abbrev pub sets : Buffer → List (List Entry)
sets found = found.senders ∷ found.receivers ∷ []

-- the buffer at which this process does not wait
abbrev pub without_one : Who → Buffer → Buffer
without_one who found = record found { senders = waiters.without_one who found.senders; receivers = waiters.without_one who found.receivers }
