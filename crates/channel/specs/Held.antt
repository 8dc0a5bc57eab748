-- A channel with its number and the settings with which it was made: what a configuration says of it, what it demands of a call, and how
-- the call leaves it.
use Rattle.std.specs.Prelude.{◌≡◌, ℕ, List, Option, Some, None, Bool, false, Result, is_none, nat_eq, IsFalse, IsTrue}
use Rattle.apex_types.specs.declared.cause.Cause.{Cause}
use Rattle.apex_types.specs.declared.record.Body.TheVariants.{Call}
use Rattle.apex_types.specs.declared.record.Call.{Call as CallRecord}
use Rattle.apex_types.specs.declared.record.Crossing.{Crossing}
use Rattle.apex_types.specs.declared.record.Who.{Who}
use Rattle.apex_types.specs.declared.shape.End.TheVariants.{Senders, Receivers}
use Rattle.apex_machine.specs.After.{content_by}
use Rattle.apex_machine.specs.Answer.{Answer}
use Rattle.apex_machine.specs.Channels.{capacity_of, is_at_destination, is_at_source, is_from_outside, is_to_outside, receiving_discipline, refresh_of, sending_discipline, size_of}
use Rattle.apex_machine.specs.Configuration.{Configuration}
use Rattle.apex_machine.specs.Demands.{AllHold, Judges, arrival_demands, departure_demands, through_demands}
use Rattle.apex_machine.specs.Ports.{arrived, channel_effect, departed, suits_use, use_of}
use Rattle.apex_machine.specs.State.{Channel, Content, channel_set, is_named}
use Rattle.apex_machine.specs.Waiting.{set_after, without}
use Rattle.channel.specs.declared.settings.QueuingSettings.{QueuingSettings}
use Rattle.channel.specs.declared.settings.SamplingSettings.{SamplingSettings}
use Rattle.wait_set.specs.declared.object.ObjFault.{ObjFault}
use Rattle.wait_set.specs.Actors.{Refuses}
use Rattle.wait_set.specs.Laws.{AreBeforePlace}

-- the settings with which a channel was made, by its kind
pub data Settings : Type 0 where
  ForSampling : (settings : SamplingSettings) → Settings
  ForQueuing : (settings : QueuingSettings) → Settings

-- a channel with its number and the settings with which it was made
pub record Held : Type 0 where
  pub number : ℕ
  pub settings : Settings
  pub channel : Channel

-- what a configuration says

-- whether a partition is at an end that has this partition, or none if it is outside
abbrev pub is_there : ℕ → Option ℕ → Bool
is_there partition None = false
is_there partition (Some other) = nat_eq other partition

-- a configuration gives the channel of this number these settings
abbrev pub SaysTheSame : Configuration → ℕ → Settings → Type 0
SaysTheSame configuration number (ForSampling settings) =
    (refresh_of configuration number ≡ settings.refresh)
    × (size_of configuration number ≡ settings.size)
    × (is_from_outside configuration number ≡ settings.from_outside)
    × (is_to_outside configuration number ≡ false)
SaysTheSame configuration number (ForQueuing settings) =
    (capacity_of configuration number ≡ settings.capacity)
    × (sending_discipline configuration number ≡ settings.sending)
    × (receiving_discipline configuration number ≡ settings.receiving)
    × ((partition : ℕ) → is_at_source configuration number partition ≡ is_there partition settings.source)
    × ((partition : ℕ) → is_at_destination configuration number partition ≡ is_there partition settings.destination)
    × (size_of configuration number ≡ settings.size)
    × (is_from_outside configuration number ≡ is_none settings.source)
    × (is_to_outside configuration number ≡ is_none settings.destination)

-- a channel is made as it is configured
abbrev pub IsConfigured : Configuration → Held → Type 0
IsConfigured configuration held = SaysTheSame configuration held.number held.settings

-- calls

-- the entries of all processes that wait at a channel have places below this one
abbrev pub AllBelow : ℕ → Held → Type 0
AllBelow place held = AreBeforePlace place held.channel.senders × AreBeforePlace place held.channel.receivers

-- what a channel gives the caller of a call at this time of its core, whichever configuration gives its settings; the call's service is of
-- the channel's kind
abbrev pub Gives : ℕ → CallRecord → Held → Answer → Type 0
Gives now call held answer =
    (configuration : Configuration) → IsConfigured configuration held
    → IsTrue (suits_use configuration held.number call.who.part (use_of call.request) held.channel)
    × (answer ≡ (channel_effect configuration now held.number call.who.part (use_of call.request) held.channel).answer)

-- the service of a call is not of the channel's kind, whichever configuration gives its settings
abbrev pub DoesNotServe : CallRecord → Held → Type 0
DoesNotServe call held =
    (configuration : Configuration) → IsConfigured configuration held
    → IsFalse (suits_use configuration held.number call.who.part (use_of call.request) held.channel)

-- a call meets everything that the channel demands of it at this time of its core, whichever configuration gives its settings
abbrev pub Accepts : ℕ → CallRecord → Held → Type 0
Accepts now call held =
    (configuration : Configuration) → IsConfigured configuration held → AllHold (through_demands configuration now held.number held.channel call)

-- a judgement of a call, whichever configuration gives the channel's settings: everything that the channel demands of it holds, or it gives
-- the cause of the first demand that fails
abbrev pub JudgesCall : ℕ → CallRecord → Held → Result (Unit {0}) Cause → Type 0
JudgesCall now call held judgement =
    (configuration : Configuration) → IsConfigured configuration held → Judges (through_demands configuration now held.number held.channel call) judgement

-- why a call is refused, by what the channel demands of it
abbrev pub RefusesCall : ℕ → CallRecord → Held → ObjFault → Type 0
RefusesCall now call held fault =
    (configuration : Configuration) → IsConfigured configuration held → Refuses (through_demands configuration now held.number held.channel call) fault

-- the channel after a call, at this place and at this time of its core
abbrev pub called : Configuration → ℕ → ℕ → CallRecord → Held → Channel
called configuration place now call held = record {
  content = content_by configuration now held.number (Call call) held.channel;
  senders = set_after place (Call call) (channel_set held.number Senders) held.channel.senders;
  receivers = set_after place (Call call) (channel_set held.number Receivers) held.channel.receivers;
}

-- a channel is as a call through it leaves it, whichever configuration gives its settings; its number and its settings stay
abbrev pub IsAfterCall : ℕ → ℕ → CallRecord → Held → Held → Type 0
IsAfterCall place now call old new =
    (configuration : Configuration) → IsConfigured configuration old → new ≡ record old { channel = called configuration place now call old }

-- messages that pass an end outside

-- a channel with this content, and without the processes that a record of a message names
abbrev pub crossed : Crossing → Content → Held → Held
crossed crossing content held = record held {
  channel = record {
    content = content;
    senders = without (λ who. is_named who crossing.woken) held.channel.senders;
    receivers = without (λ who. is_named who crossing.woken) held.channel.receivers;
  };
}

-- the answer is that of the arrival of a message, whichever it is, at any time and whichever configuration gives the channel's settings
abbrev pub GivesAtArrival : Held → Answer → Type 0
GivesAtArrival held answer =
    (configuration : Configuration) (now : ℕ) (message : List ℕ) → IsConfigured configuration held
    → answer ≡ (arrived configuration now held.number message held.channel).answer

-- the answer is that of the departure of a message, at any time and whichever configuration gives the channel's settings
abbrev pub GivesAtDeparture : Held → Answer → Type 0
GivesAtDeparture held answer =
    (configuration : Configuration) (now : ℕ) → IsConfigured configuration held → answer ≡ (departed configuration now held.number held.channel).answer

-- an arrival meets everything that the channel demands of it, at any time and whichever configuration gives its settings
abbrev pub AcceptsArrival : Crossing → Held → Type 0
AcceptsArrival crossing held =
    (configuration : Configuration) (now : ℕ) → IsConfigured configuration held → AllHold (arrival_demands configuration now held.number held.channel crossing)

-- a judgement of an arrival, at any time and whichever configuration gives the channel's settings
abbrev pub JudgesArrival : Crossing → Held → Result (Unit {0}) Cause → Type 0
JudgesArrival crossing held judgement =
    (configuration : Configuration) (now : ℕ) → IsConfigured configuration held
    → Judges (arrival_demands configuration now held.number held.channel crossing) judgement

-- why an arrival is refused, by what the channel demands of it
abbrev pub RefusesArrival : Crossing → Held → ObjFault → Type 0
RefusesArrival crossing held fault =
    (configuration : Configuration) (now : ℕ) → IsConfigured configuration held
    → Refuses (arrival_demands configuration now held.number held.channel crossing) fault

-- a channel is as an arrival leaves it at this time of its core, whichever configuration gives its settings; its number and its settings stay
abbrev pub IsAfterArrival : ℕ → Crossing → Held → Held → Type 0
IsAfterArrival now crossing old new =
    (configuration : Configuration) → IsConfigured configuration old
    → new ≡ crossed crossing (arrived configuration now old.number crossing.message old.channel).next old

-- a departure meets everything that the channel demands of it, at any time and whichever configuration gives its settings
abbrev pub AcceptsDeparture : Crossing → Held → Type 0
AcceptsDeparture crossing held =
    (configuration : Configuration) (now : ℕ) → IsConfigured configuration held
    → AllHold (departure_demands configuration now held.number held.channel crossing)

-- a judgement of a departure, at any time and whichever configuration gives the channel's settings
abbrev pub JudgesDeparture : Crossing → Held → Result (Unit {0}) Cause → Type 0
JudgesDeparture crossing held judgement =
    (configuration : Configuration) (now : ℕ) → IsConfigured configuration held
    → Judges (departure_demands configuration now held.number held.channel crossing) judgement

-- why a departure is refused, by what the channel demands of it
abbrev pub RefusesDeparture : Crossing → Held → ObjFault → Type 0
RefusesDeparture crossing held fault =
    (configuration : Configuration) (now : ℕ) → IsConfigured configuration held
    → Refuses (departure_demands configuration now held.number held.channel crossing) fault

-- a channel is as a departure leaves it, whichever configuration gives its settings; its number and its settings stay
abbrev pub IsAfterDeparture : Crossing → Held → Held → Type 0
IsAfterDeparture crossing old new =
    (configuration : Configuration) (now : ℕ) → IsConfigured configuration old
    → new ≡ crossed crossing (departed configuration now old.number old.channel).next old

-- processes that leave

-- a channel without the waiters that leave
abbrev pub without_waiters : (Who → Bool) → Held → Held
without_waiters leaves held = record held {
  channel = record held.channel { senders = without leaves held.channel.senders; receivers = without leaves held.channel.receivers };
}
