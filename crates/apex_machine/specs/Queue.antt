-- Messages that wait for a receiver: the rule of buffers and of queuing channels.
use Rattle.std.specs.Prelude.{ℕ, List, [], ◌∷◌, ◌++◌, length, Option, Some, None, ℤ, nat_lt, if◌then◌else◌}
use Rattle.apex_machine.specs.declared.state.Entry.{Entry}
use Rattle.apex_machine.specs.Answer.{Effect, done, giving, unmet, waiters_of, waking}

-- the messages of a queue, the oldest first
abbrev pub Messages : Type 0
Messages = List (List ℕ)

-- the message goes to the first receiver that waits
abbrev pub handed_over : Entry → Messages → Effect Messages
handed_over receiver messages = record { answer = waking (receiver.who ∷ []); next = messages }

-- the message becomes the newest
abbrev pub appended : List ℕ → Messages → Effect Messages
appended message messages = record { answer = done; next = messages ++ message ∷ [] }

-- the call is unmet
abbrev pub not_yet : ℤ → Messages → Effect Messages
not_yet time_out messages = record { answer = unmet time_out; next = messages }

-- the oldest message leaves
abbrev pub removed : List ℕ → Messages → Effect Messages
removed message others = record { answer = giving message []; next = others }

-- the oldest message leaves, and the message of the first sender that waits becomes the newest
abbrev pub moved_up : List ℕ → Messages → Entry → Effect Messages
moved_up message others sender = record { answer = giving message (sender.who ∷ []); next = others ++ sender.message ∷ [] }

-- sending: the first receiver that waits gets the message; else, if there is room, the message becomes the newest   (SEND_BUFFER,
-- SEND_QUEUING_MESSAGE, section 3)
abbrev pub sent : ℕ → List ℕ → ℤ → Option Entry → Messages → Effect Messages
sent capacity message time_out (Some receiver) messages = handed_over receiver messages
sent capacity message time_out None messages = if nat_lt (length messages) capacity then appended message messages else not_yet time_out messages

-- the messages that entries of a waiting set send, in their order
abbrev pub messages_sent : List Entry → Messages
messages_sent [] = []
messages_sent (entry ∷ entries) = entry.message ∷ messages_sent entries

-- clearing: the messages are gone, and those of these senders, the first that wait and for which there is room, take their place
-- (CLEAR_QUEUING_PORT, section 3)
abbrev pub emptied : List Entry → Effect Messages
emptied senders = record { answer = waking (waiters_of senders); next = messages_sent senders }

-- receiving: the caller gets the oldest message, if there is one; the message of the first sender that waits then fills the room
-- (RECEIVE_BUFFER, RECEIVE_QUEUING_MESSAGE, section 3)
abbrev pub received : ℤ → Option Entry → Messages → Effect Messages
received time_out sender [] = not_yet time_out []
received time_out None (message ∷ others) = removed message others
received time_out (Some sender) (message ∷ others) = moved_up message others sender
