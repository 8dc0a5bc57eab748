-- What a record gives to the figures of a channel.
use Rattle.std.specs.Prelude.{ℕ, ◌-◌, List, [], ◌∷◌, ◌++◌, Option, Some, None, ℤ, length, nat_eq, not, ◌&&◌, if◌then◌else◌}
use Rattle.apex_types.specs.declared.operation.{QueuingOperation.QueuingOperation, SamplingOperation.SamplingOperation}
use Rattle.apex_types.specs.declared.record.Body.{Body}
use Rattle.apex_types.specs.declared.record.Body.TheVariants.{Arrive, Call, Depart}
use Rattle.apex_types.specs.declared.record.Call.{Call as CallRecord}
use Rattle.apex_types.specs.declared.request.Request.{Request}
use Rattle.apex_types.specs.declared.request.Request.TheVariants as request
use Rattle.apex_machine.specs.After.{is_channel, is_valid}
use Rattle.apex_machine.specs.Pieces.{time_at}
use Rattle.apex_machine.specs.State.{Channel, Content, Queued, Sampled}
use Rattle.apex_machine.specs.Waiting.{is_no_error, is_waiting}
use Rattle.channel.specs.Kinds.{is_sampled}
use Rattle.run_numbers.specs.declared.figure.Figure.TheVariants.{Ages, InvalidReads, Messages, Reads, Waiters, Writes}
use Rattle.run_numbers.specs.declared.figure.Thing.TheVariants as thing
use Rattle.run_numbers.specs.declared.observation.Observation.{Observation}
use Rattle.run_numbers.specs.declared.observation.Observation.TheVariants.{Value}
use Rattle.run_numbers.specs.Observed.{when}

-- sampling channels

-- the age of the message that a sampling channel holds, if it holds one
abbrev pub age_of : ℕ → ℕ → Content → List Observation
age_of number now (Sampled None) = []
age_of number now (Sampled (Some last)) = Value (Ages number) (now - last.stamp) ∷ []
age_of number now (Queued messages) = []

-- a read, which claims this validity
abbrev pub read : ℕ → ℕ → Content → Option ℤ → List Observation
read number now content validity =
    Value (Reads number) 1 ∷ when (not (is_valid validity)) (Value (InvalidReads number) 1) ++ age_of number now content

abbrev pub sampled_through : ℕ → ℕ → Content → CallRecord → Request → List Observation
sampled_through number now content call (request.SamplingPort port (SamplingOperation.Write size message)) =
    when (is_no_error call.claim.out) (Value (Writes number) 1)
sampled_through number now content call (request.SamplingPort port SamplingOperation.Read) = read number now content call.claim.val
sampled_through number now content call other = []

-- what a call through a channel gives at this time of its core: a write or a read
abbrev pub sampled : ℕ → ℕ → Channel → CallRecord → List Observation
sampled number now channel call = sampled_through number now channel.content call call.request

-- what a record of a core gives to the figures of a channel, by the times and the channel before it: an arrival at a sampling channel is a
-- write
abbrev pub used : ℕ → List ℕ → Channel → ℕ → Body → List Observation
used number times channel core (Call call) =
    if is_channel number call.claim.chan then sampled number (time_at times core) channel call else []
used number times channel core (Arrive crossing) = when (nat_eq crossing.chan number && is_sampled channel.content) (Value (Writes number) 1)
used number times channel core other = []

-- queuing channels

-- how many processes wait at the end of a channel where the caller waits
abbrev pub joined_through : ℕ → Channel → Request → List Observation
joined_through number channel (request.QueuingPort port (QueuingOperation.Send size time_out message)) =
    Value (Waiters (thing.Channel number)) (length channel.senders) ∷ []
joined_through number channel (request.QueuingPort port (QueuingOperation.Receive time_out)) =
    Value (Waiters (thing.Channel number)) (length channel.receivers) ∷ []
joined_through number channel other = []

-- the same, if it waits
abbrev pub joined_queue : ℕ → Channel → CallRecord → List Observation
joined_queue number channel call = if is_waiting call.claim.out then joined_through number channel call.request else []

-- how many messages a queuing channel holds, and what else there is of it
abbrev pub left_in_queue : ℕ → Content → List Observation → List Observation
left_in_queue number (Queued messages) others = Value (Messages (thing.Channel number)) (length messages) ∷ others
left_in_queue number (Sampled last) others = []

-- what a queuing channel holds after a record that uses it
abbrev pub used_after : ℕ → Channel → Body → List Observation
used_after number channel (Call call) =
    if is_channel number call.claim.chan then left_in_queue number channel.content (joined_queue number channel call) else []
used_after number channel (Arrive crossing) = if nat_eq crossing.chan number then left_in_queue number channel.content [] else []
used_after number channel (Depart crossing) = if nat_eq crossing.chan number then left_in_queue number channel.content [] else []
used_after number channel other = []
