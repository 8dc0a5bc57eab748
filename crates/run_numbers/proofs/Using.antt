-- What a record that uses a channel gives to it.
use Rattle.std.proofs.Common.{◌≡◌, ◌∙◌, ℕ, List, [], ◌∷◌, ◌++◌, Bool, true, false, Option, length, nat_eq, refl, sym, ap}
use Rattle.apex_types.specs.declared.record.Body.{Body}
use Rattle.apex_types.specs.declared.record.Body.TheVariants.{Arrive, Call, Depart}
use Rattle.apex_types.specs.declared.record.Call.{Call as CallRecord}
use Rattle.apex_types.specs.declared.record.Crossing.{Crossing}
use Rattle.apex_machine.specs.After.{is_channel}
use Rattle.apex_machine.specs.State.{Channel, Content, Queued, Sampled}
use Rattle.channel.specs.Held.{Held}
use Rattle.channel.specs.Kinds.{is_sampled, queuing_held}
use Rattle.wait_set.specs.Queues.{Queue}
use Rattle.run_numbers.specs.declared.figure.Figure.TheVariants.{Messages}
use Rattle.run_numbers.specs.declared.figure.Thing.TheVariants as thing
use Rattle.run_numbers.specs.declared.observation.Observation.{Observation}
use Rattle.run_numbers.specs.declared.observation.Observation.TheVariants.{Value}
use Rattle.run_numbers.specs.Channels.{joined_queue, left_in_queue, used_after}
use Rattle.run_numbers.specs.Observed.{when}
use Rattle.run_numbers.proofs.Added.{none_added}
use Rattle.run_numbers.proofs.Given.{given_if}

-- queuing channels

left_none : (number : ℕ) (content : Content) (others : List Observation) → is_sampled content ≡ true → [] ≡ left_in_queue number content others
left_none number (Sampled last) others is = refl
left_none number (Queued messages) others is = cc

either_way : (test : Bool) (given : List Observation) → [] ≡ given → [] ≡ given_if test given
either_way true given none = none
either_way false given none = refl

-- a sampling channel has no queue
pub no_queue : (number : ℕ) (channel : Channel) (body : Body) (old : List Observation) → is_sampled channel.content ≡ true → old ≡ old ++ used_after number channel body
no_queue number channel (Call call) old is =
    none_added old
    ∙ ap (λ list. old ++ list) (either_way (is_channel number call.claim.chan) (left_in_queue number channel.content (joined_queue number channel call)) (left_none number channel.content (joined_queue number channel call) is))
no_queue number channel (Arrive crossing) old is =
    none_added old ∙ ap (λ list. old ++ list) (either_way (nat_eq crossing.chan number) (left_in_queue number channel.content []) (left_none number channel.content [] is))
no_queue number channel (Depart crossing) old is =
    none_added old ∙ ap (λ list. old ++ list) (either_way (nat_eq crossing.chan number) (left_in_queue number channel.content []) (left_none number channel.content [] is))
no_queue number channel body old is = none_added old

-- what a queuing channel holds, by its queue

pub call_in_queue : (number : ℕ) (channel : Channel) (messages : List (List ℕ)) (call : CallRecord) → channel.content ≡ Queued messages
    → given_if (is_channel number call.claim.chan) (Value (Messages (thing.Channel number)) (length messages) ∷ joined_queue number channel call)
    ≡ used_after number channel (Call call)
call_in_queue number channel messages call is = ap (λ one. given_if (is_channel number call.claim.chan) (left_in_queue number one (joined_queue number channel call))) (sym is)

when_is : (test : Bool) (observation : Observation) → when test observation ≡ given_if test (observation ∷ [])
when_is true observation = refl
when_is false observation = refl

pub crossing_in_queue : (number : ℕ) (channel : Channel) (messages : List (List ℕ)) (crossing : Crossing) → channel.content ≡ Queued messages
    → when (nat_eq crossing.chan number) (Value (Messages (thing.Channel number)) (length messages)) ≡ given_if (nat_eq crossing.chan number) (left_in_queue number channel.content [])
crossing_in_queue number channel messages crossing is =
    when_is (nat_eq crossing.chan number) (Value (Messages (thing.Channel number)) (length messages))
    ∙ ap (λ one. given_if (nat_eq crossing.chan number) (left_in_queue number one [])) (sym is)

pub content_is : (held : Held) (size : ℕ) (source destination : Option ℕ) (queue : Queue) → held ≡ queuing_held held.number size source destination queue
    → held.channel.content ≡ Queued queue.messages
content_is held size source destination queue is = ap (λ (one : Held). one.channel.content) is

pub senders_are : (held : Held) (size : ℕ) (source destination : Option ℕ) (queue : Queue) → held ≡ queuing_held held.number size source destination queue
    → held.channel.senders ≡ queue.senders.entries
senders_are held size source destination queue is = ap (λ (one : Held). one.channel.senders) is

pub receivers_are : (held : Held) (size : ℕ) (source destination : Option ℕ) (queue : Queue) → held ≡ queuing_held held.number size source destination queue
    → held.channel.receivers ≡ queue.receivers.entries
receivers_are held size source destination queue is = ap (λ (one : Held). one.channel.receivers) is
