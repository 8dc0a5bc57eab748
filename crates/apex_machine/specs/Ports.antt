-- Channels: what a call through a port gives its caller, and what it leaves in the channel.
use Rattle.std.specs.Prelude.{ℕ, ◌-◌, List, [], Option, Some, None, Bool, true, false, ℤ, pos, nat_le, length, ◌||◌, if◌then◌else◌}
use Rattle.apex_types.specs.declared.code.Code.TheVariants as code
use Rattle.apex_types.specs.declared.object_kind.ObjectKind.{ObjectKind}
use Rattle.apex_types.specs.declared.object_kind.ObjectKind.TheVariants as kind
use Rattle.apex_types.specs.declared.record.Out.TheVariants as out
use Rattle.apex_types.specs.declared.operation.{QueuingOperation.QueuingOperation, SamplingOperation.SamplingOperation}
use Rattle.apex_types.specs.declared.request.Request.{Request}
use Rattle.apex_types.specs.declared.request.Request.TheVariants as request
use Rattle.apex_machine.specs.declared.state.Entry.{Entry}
use Rattle.apex_machine.specs.declared.state.Status.{Status}
use Rattle.apex_machine.specs.Answer.{Answer, Effect, Number, done, effect_on}
use Rattle.apex_machine.specs.Channels.{capacity_of, is_at_destination, is_at_source, receiving_discipline, refresh_of, sending_discipline}
use Rattle.apex_machine.specs.Configuration.{Configuration}
use Rattle.apex_machine.specs.Queue.{Messages, emptied, received, sent}
use Rattle.apex_machine.specs.State.{Channel, Content, Partition, Port, Queued, Sampled, Stamped, given_object}
use Rattle.apex_machine.specs.Statuses.{telling}
use Rattle.apex_machine.specs.Waiting.{first_waiter, first_waiters}

-- how a call uses a channel
pub data Use : Type 0 where
  Write : (message : List ℕ) → Use
  Read : Use
  Send : (message : List ℕ) → (time_out : ℤ) → Use
  Receive : (time_out : ℤ) → Use
  Clear : Use
  Ask : Use

-- GET_QUEUING_PORT_STATUS asks the channel; every other status is reported by the partition
abbrev pub asked_of : ObjectKind → Option Use
asked_of kind.QueuingPort = Some Ask
asked_of _ = None

-- how a service uses a channel, if it does
abbrev pub use_of : Request → Option Use
use_of (request.SamplingPort port (SamplingOperation.Write length message)) = Some (Write message)
use_of (request.SamplingPort port SamplingOperation.Read) = Some Read
use_of (request.QueuingPort port (QueuingOperation.Send length time_out message)) = Some (Send message time_out)
use_of (request.QueuingPort port (QueuingOperation.Receive time_out)) = Some (Receive time_out)
use_of (request.QueuingPort port QueuingOperation.Clear) = Some Clear
use_of (request.GetStatus kind object) = asked_of kind
use_of _ = None

-- the port whose channel is asked for a status, if it is created
abbrev pub port_asked : Partition → ObjectKind → ℤ → Option Port
port_asked partition kind.QueuingPort port = given_object partition.queuing_ports port
port_asked partition _ object = None

-- the port that a service goes through, if it is created
abbrev pub port_of : Partition → Request → Option Port
port_of partition (request.SamplingPort port (SamplingOperation.Write length message)) = given_object partition.sampling_ports port
port_of partition (request.SamplingPort port SamplingOperation.Read) = given_object partition.sampling_ports port
port_of partition (request.QueuingPort port (QueuingOperation.Send length time_out message)) = given_object partition.queuing_ports port
port_of partition (request.QueuingPort port (QueuingOperation.Receive time_out)) = given_object partition.queuing_ports port
port_of partition (request.QueuingPort port QueuingOperation.Clear) = given_object partition.queuing_ports port
port_of partition (request.GetStatus kind object) = port_asked partition kind object
port_of partition _ = None

-- the channel of a port
abbrev pub channel_by : Option Port → Option ℕ
channel_by None = None
channel_by (Some port) = Some port.channel

-- the channel of the port that a service goes through, if it goes through one
abbrev pub channel_of : Partition → Request → Option ℕ
channel_of partition request = channel_by (port_of partition request)

-- sampling channels

-- a message is valid if its age is at most the refresh period
abbrev pub validity : ℕ → ℕ → Stamped → ℕ
validity now refresh last = if nat_le (now - last.stamp) refresh then 1 else 0

-- WRITE_SAMPLING_MESSAGE: the message replaces the last one and is stamped with the time of its writing
abbrev pub written : ℕ → List ℕ → Effect (Option Stamped)
written now message = record { answer = done; next = Some (record { message = message; stamp = now }) }

-- what a reader gets: the last message and whether it is valid; from an empty channel no message, and the validity is 0
abbrev pub reading_of : ℕ → ℕ → Option Stamped → Answer
reading_of now refresh None = record { out = out.Answer code.NoAction; val = Number (pos 0); val2 = None; val3 = None; bytes = []; woken = [] }
reading_of now refresh (Some last) =
    record { out = out.Answer code.NoError; val = Number (pos (validity now refresh last)); val2 = None; val3 = None; bytes = last.message; woken = [] }

-- READ_SAMPLING_MESSAGE: the message stays
abbrev pub sampled : ℕ → ℕ → Option Stamped → Effect (Option Stamped)
sampled now refresh last = record { answer = reading_of now refresh last; next = last }

-- any channel

-- the processes that wait at a partition's end of a queuing channel: at its source to send, else to receive
abbrev pub waiting_at_end : Configuration → ℕ → ℕ → Channel → List Entry
waiting_at_end configuration number partition channel = if is_at_source configuration number partition then channel.senders else channel.receivers

-- GET_QUEUING_PORT_STATUS: how many messages the channel holds, and how many processes wait at the caller's end
abbrev pub channel_status : Messages → List Entry → Status
channel_status messages waiting = record { val = length messages; val2 = Some (length waiting); val3 = None }

-- whether a channel is of the kind that this use needs; only a partition at one of its ends may ask for its status
abbrev pub suits : Configuration → ℕ → ℕ → Use → Content → Bool
suits configuration number partition (Write message) (Sampled last) = true
suits configuration number partition Read (Sampled last) = true
suits configuration number partition (Send message time_out) (Queued messages) = true
suits configuration number partition (Receive time_out) (Queued messages) = true
suits configuration number partition Clear (Queued messages) = true
suits configuration number partition Ask (Queued messages) = is_at_source configuration number partition || is_at_destination configuration number partition
suits configuration number partition _ _ = false

-- the use of a channel by this partition, at the caller's time; on a channel of the wrong kind a use does nothing, and no such call is
-- lawful
abbrev pub used : Configuration → ℕ → ℕ → ℕ → Use → Channel → Content → Effect Content
used configuration now number partition (Write message) channel (Sampled last) = effect_on Sampled (written now message)
used configuration now number partition Read channel (Sampled last) = effect_on Sampled (sampled now (refresh_of configuration number) last)
used configuration now number partition (Send message time_out) channel (Queued messages) =
    effect_on Queued (sent (capacity_of configuration number) message time_out (first_waiter (receiving_discipline configuration number) channel.receivers) messages)
used configuration now number partition (Receive time_out) channel (Queued messages) =
    effect_on Queued (received time_out (first_waiter (sending_discipline configuration number) channel.senders) messages)
used configuration now number partition Clear channel (Queued messages) =
    effect_on Queued (emptied (first_waiters (sending_discipline configuration number) (capacity_of configuration number) channel.senders))
used configuration now number partition Ask channel (Queued messages) =
    record { answer = telling (Some (channel_status messages (waiting_at_end configuration number partition channel))); next = Queued messages }
used configuration now number partition how channel content = record { answer = done; next = content }

-- what a channel gives the caller of a request, by the caller's partition, and what the channel holds afterwards
abbrev pub channel_effect : Configuration → ℕ → ℕ → ℕ → Option Use → Channel → Effect Content
channel_effect configuration now number partition None channel = record { answer = done; next = channel.content }
channel_effect configuration now number partition (Some how) channel = used configuration now number partition how channel channel.content

-- whether the channel suits the request of this partition
abbrev pub suits_use : Configuration → ℕ → ℕ → Option Use → Channel → Bool
suits_use configuration number partition None channel = false
suits_use configuration number partition (Some how) channel = suits configuration number partition how channel.content

-- messages that pass an end outside

-- how a message that arrives from outside uses a channel: as a write, or as a send that does not wait
abbrev pub arrival_use : List ℕ → Content → Use
arrival_use message (Sampled last) = Write message
arrival_use message (Queued messages) = Send message (pos 0)

-- what an arrival at this time of its core leaves in a channel, and whom it wakes; if a queue is full and nobody waits to receive, the
-- message is lost
abbrev pub arrived : Configuration → ℕ → ℕ → List ℕ → Channel → Effect Content
arrived configuration now number message channel = used configuration now number 0 (arrival_use message channel.content) channel channel.content

-- what a departure takes from a channel and leaves in it, and whom it wakes: it is a receive that does not wait
abbrev pub departed : Configuration → ℕ → ℕ → Channel → Effect Content
departed configuration now number channel = used configuration now number 0 (Receive (pos 0)) channel channel.content
