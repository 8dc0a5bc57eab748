-- A queue of messages with its two waiting sets: what each operation gives its caller, and the queue after it.
use Rattle.std.specs.Prelude.{ℕ, ℤ, pos, Bool, List, [], ◌∷◌, ◌++◌, Option, Some, None}
use Rattle.apex_types.specs.declared.discipline.Discipline.{Discipline}
use Rattle.apex_types.specs.declared.record.Claim.{Claim}
use Rattle.apex_types.specs.declared.record.Who.{Who}
use Rattle.apex_machine.specs.declared.state.Entry.{Entry}
use Rattle.apex_machine.specs.Answer.{Effect}
use Rattle.apex_machine.specs.Queue.{Messages, emptied, received, sent}
use Rattle.apex_machine.specs.Waiting.{first_waiter, first_waiters, without}
use Rattle.wait_set.specs.declared.object.Actor.{Actor}
use Rattle.wait_set.specs.Actors.{joined_by, left_by}
use Rattle.wait_set.specs.Sets.{Waiters, without_named, without_one}

-- a queue: the most messages that it holds, the messages in it, the oldest first, and the processes that wait to send and to receive
pub record Queue : Type 0 where
  pub capacity : ℕ
  pub messages : Messages
  pub senders : Waiters
  pub receivers : Waiters

-- the queue with no message, at which no process waits
abbrev pub empty_queue : ℕ → Discipline → Discipline → Queue
empty_queue capacity sending receiving = record {
  capacity = capacity;
  messages = [];
  senders = record { discipline = sending; entries = [] };
  receivers = record { discipline = receiving; entries = [] };
}

-- the first entry of a waiting set, if any process waits
abbrev pub first_of : Waiters → Option Entry
first_of waiters = first_waiter waiters.discipline waiters.entries

-- sending, given the first of the processes that wait to receive
abbrev pub sent_to : List ℕ → ℤ → Queue → Effect Messages
sent_to message time_out queue = sent queue.capacity message time_out (first_of queue.receivers) queue.messages

-- receiving, given the first of the processes that wait to send
abbrev pub received_from : ℤ → Queue → Effect Messages
received_from time_out queue = received time_out (first_of queue.senders) queue.messages

-- the queue after a send: a caller that waits enters the set of senders with the message
abbrev pub after_send : Actor → List ℕ → ℤ → Claim → Queue → Queue
after_send actor message time_out claim queue = record queue {
  messages = (sent_to message time_out queue).next;
  senders = record queue.senders { entries = joined_by actor claim message queue.senders.entries };
  receivers = record queue.receivers { entries = left_by claim queue.receivers.entries };
}

-- the queue after a receive: a caller that waits enters the set of receivers
abbrev pub after_receive : Actor → ℤ → Claim → Queue → Queue
after_receive actor time_out claim queue = record queue {
  messages = (received_from time_out queue).next;
  senders = record queue.senders { entries = left_by claim queue.senders.entries };
  receivers = record queue.receivers { entries = joined_by actor claim [] queue.receivers.entries };
}

-- clearing, given the first of the processes that wait to send, as many as there is room for
abbrev pub cleared_of : Queue → Effect Messages
cleared_of queue = emptied (first_waiters queue.senders.discipline queue.capacity queue.senders.entries)

-- the queue after it is cleared
abbrev pub after_clear : Claim → Queue → Queue
after_clear claim queue = record queue {
  messages = (cleared_of queue).next;
  senders = record queue.senders { entries = left_by claim queue.senders.entries };
}

-- the queue after the arrival of a message from outside, which names these processes
abbrev pub after_arrival : List ℕ → List Who → Queue → Queue
after_arrival message woken queue = record queue {
  messages = (sent_to message (pos 0) queue).next;
  receivers = record queue.receivers { entries = without_named woken queue.receivers.entries };
}

-- the queue after the departure of a message to the outside, which names these processes
abbrev pub after_departure : List Who → Queue → Queue
after_departure woken queue = record queue {
  messages = (received_from (pos 0) queue).next;
  senders = record queue.senders { entries = without_named woken queue.senders.entries };
}

-- the queue without the waiters that leave
abbrev pub without_waiters : (Who → Bool) → Queue → Queue
without_waiters leaves queue = record queue {
  senders = record queue.senders { entries = without leaves queue.senders.entries };
  receivers = record queue.receivers { entries = without leaves queue.receivers.entries };
}

-- the queue after the message of the first sender that waits, if one waits, has become the newest
abbrev pub moved_up : Option Entry → Queue → Queue
moved_up None queue = queue
moved_up (Some sender) queue = record queue {
  messages = queue.messages ++ sender.message ∷ [];
  senders = record queue.senders { entries = without_one sender.who queue.senders.entries };
}
