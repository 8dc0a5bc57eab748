-- What channels hold is of their kind.
use Rattle.std.proofs.Common.{◌≡◌, ℕ, List, [], ◌∷◌, true, false, Option, Some, None, is_none, is_some, cond, refl, sym, ap, subst, ◌∙◌, nat_eq, pos}
use Rattle.std.specs.Option.{option_map_or}
use Rattle.apex_types.specs.declared.record.Body.TheVariants.{Arrive, Call, Depart}
use Rattle.apex_machine.specs.Channels.{queuing_of}
use Rattle.apex_laws.specs.Laws.{HoldTheirKind, KindsStay, holds_messages}
use Rattle.apex_laws.proofs.Common.{Ask, Body, Channel, Clear, Configuration, Content, Messages, Ordered, Queued, QueuingChannel, Read, Receive, Run, Sampled, Send, State, Step, Use, Write, arrival_use, arrived, channel_effect, cold_state}
use Rattle.apex_laws.proofs.Common.{content_by, departed, is_channel, is_to_outside, time_of, use_of, used}
use Rattle.apex_laws.proofs.Booleans.{by_test, impossible}

-- a use leaves what a channel holds of its kind
use_keeps : (configuration : Configuration) (now number partition : ℕ) (how : Use) (channel : Channel) (content : Content)
    → holds_messages (used configuration now number partition how channel content).next ≡ holds_messages content
use_keeps configuration now number partition (Write message) channel (Sampled last) = refl
use_keeps configuration now number partition Read channel (Sampled last) = refl
use_keeps configuration now number partition (Send message time_out) channel (Queued messages) = refl
use_keeps configuration now number partition (Receive time_out) channel (Queued messages) = refl
use_keeps configuration now number partition Clear channel (Queued messages) = refl
use_keeps configuration now number partition Ask channel (Queued messages) = refl
use_keeps configuration now number partition _ channel _ = refl

effect_keeps : (configuration : Configuration) (now number partition : ℕ) (how : Option Use) (channel : Channel)
    → holds_messages (channel_effect configuration now number partition how channel).next ≡ holds_messages channel.content
effect_keeps configuration now number partition None channel = refl
effect_keeps configuration now number partition (Some how) channel = use_keeps configuration now number partition how channel channel.content

-- so does every record
content_keeps : (configuration : Configuration) (now number : ℕ) (body : Body) (channel : Channel) → holds_messages (content_by configuration now number body channel) ≡ holds_messages channel.content
content_keeps configuration now number (Call call) channel =
    by_test (λ content. holds_messages content ≡ holds_messages channel.content) (is_channel number call.claim.chan)
    (channel_effect configuration now number call.who.part (use_of call.request) channel).next channel.content
    (λ here. effect_keeps configuration now number call.who.part (use_of call.request) channel) (λ elsewhere. refl)
content_keeps configuration now number (Arrive crossing) channel =
    by_test (λ content. holds_messages content ≡ holds_messages channel.content) (nat_eq crossing.chan number) (arrived configuration now number crossing.message channel).next channel.content
    (λ here. use_keeps configuration now number 0 (arrival_use crossing.message channel.content) channel channel.content) (λ elsewhere. refl)
content_keeps configuration now number (Depart crossing) channel =
    by_test (λ content. holds_messages content ≡ holds_messages channel.content) (nat_eq crossing.chan number) (departed configuration now number channel).next channel.content
    (λ here. use_keeps configuration now number 0 (Receive (pos 0)) channel channel.content) (λ elsewhere. refl)
content_keeps configuration now number _ channel = refl

cold_kinds : (configuration : Configuration) → HoldTheirKind configuration (cold_state configuration)
cold_kinds configuration number = by (queuing_of configuration number)
  where
    by : (found : Option QueuingChannel) → holds_messages (cond (is_some found) (Queued []) (Sampled None)) ≡ is_some found
    by None = refl
    by (Some channel) = refl

step_kinds : (configuration : Configuration) (state : State) (ordered : Ordered) (next : State)
    → HoldTheirKind configuration state → Step configuration state ordered next → HoldTheirKind configuration next
step_kinds configuration state ordered next kinds step number =
    ap (λ one. holds_messages (one.channels number).content) step.1
    ∙ content_keeps configuration (time_of state.cores ordered.core) number ordered.rec.body (state.channels number) ∙ kinds number

run_kinds : (configuration : Configuration) (records : List Ordered) (state final : State)
    → HoldTheirKind configuration state → Run configuration state records final → HoldTheirKind configuration final
run_kinds configuration [] state final kinds run = subst (HoldTheirKind configuration) (sym run) kinds
run_kinds configuration (ordered ∷ others) state final kinds run =
    run_kinds configuration others run.0 final (step_kinds configuration state ordered run.0 kinds run.1) run.2

pub kinds_stay : KindsStay
kinds_stay = (cold_kinds, step_kinds, run_kinds)

-- a channel that leads to the outside holds messages

queued : (content : Content) → holds_messages content ≡ true → (messages : Messages) × (content ≡ Queued messages)
queued (Queued messages) is = (messages, refl)
queued (Sampled last) is = impossible is

is_there : (found : Option QueuingChannel) → option_map_or (λ channel. is_none channel.destination) found false ≡ true → is_some found ≡ true
is_there None is = impossible is
is_there (Some channel) is = refl

pub outside_queued : (configuration : Configuration) (state : State) (number : ℕ) → HoldTheirKind configuration state → is_to_outside configuration number ≡ true
    → (messages : Messages) × ((state.channels number).content ≡ Queued messages)
outside_queued configuration state number kinds outside = queued (state.channels number).content (kinds number ∙ is_there (queuing_of configuration number) outside)
