-- What each piece demands of a record that touches it, in the order in which it tests the demands, and its local step.
use Rattle.std.specs.Prelude.{◌≡◌, ◌⊎◌, ◌≤◌, length, ℕ, ◌+◌, List, [], ◌∷◌, ◌++◌, Option, Some, None, Bool, true, false, nat_eq, ◌||◌, IsTrue, IsFalse, ℤ, Result, MatchResult}
use Rattle.apex_types.specs.declared.cause.Cause.{Cause}
use Rattle.apex_types.specs.declared.cause.Cause.TheVariants as cause
use Rattle.apex_types.specs.declared.code.Code.TheVariants as code
use Rattle.apex_types.specs.declared.record.Body.{Body}
use Rattle.apex_types.specs.declared.record.Body.TheVariants.{Arrive, Call, Depart, Ret, Disp, Tick, Error}
use Rattle.apex_types.specs.declared.record.Call.{Call as CallRecord}
use Rattle.apex_types.specs.declared.record.Claim.{Claim}
use Rattle.apex_types.specs.declared.record.Crossing.{Crossing}
use Rattle.apex_types.specs.declared.record.Ordered.{Ordered}
use Rattle.apex_types.specs.declared.record.Out.{Out}
use Rattle.apex_types.specs.declared.record.Out.TheVariants as out
use Rattle.apex_types.specs.declared.record.Return.{Return}
use Rattle.apex_types.specs.declared.record.Who.{Who}
use Rattle.apex_types.specs.declared.shape.End.TheVariants.{Senders, Receivers}
use Rattle.apex_types.specs.declared.operation.{QueuingOperation.QueuingOperation}
use Rattle.apex_types.specs.declared.request.Request.{Request}
use Rattle.apex_types.specs.declared.request.Request.TheVariants as request
use Rattle.apex_machine.specs.declared.condition.Condition.{Condition}
use Rattle.apex_machine.specs.declared.state.CoreState.{CoreState}
use Rattle.apex_machine.specs.declared.state.Entry.{Entry}
use Rattle.apex_machine.specs.declared.state.Outcome.{Outcome}
use Rattle.apex_machine.specs.declared.state.WaitingSet.{WaitingSet}
use Rattle.apex_machine.specs.After.{is_channel}
use Rattle.apex_machine.specs.Arguments.{is_over}
use Rattle.apex_machine.specs.Choice.{partition_choice}
use Rattle.apex_machine.specs.Configuration.{Configuration, has_partition, window_at}
use Rattle.apex_machine.specs.Pieces.{ChannelPart, ModulePart, Part, PartitionPart, part_after, time_at}
use Rattle.apex_machine.specs.Channels.{has_channel, is_from_outside, is_to_outside, size_of}
use Rattle.apex_machine.specs.Ports.{arrived, channel_effect, channel_of, departed, suits_use, use_of}
use Rattle.apex_types.specs.declared.error.ErrorCode.{ErrorCode}
use Rattle.apex_types.specs.declared.error.ErrorCode.TheVariants as error
use Rattle.apex_machine.specs.Deadlines.{is_missed}
use Rattle.apex_machine.specs.Errors.{restarts_by_error}
use Rattle.apex_machine.specs.DueTimes.{NamesThoseDue, time_out_of}
use Rattle.apex_machine.specs.ServiceConditions.{conditions_of}
use Rattle.apex_machine.specs.Services.{Answer, HasNoValues, HasValues, NamesExactly, answer_of}
use Rattle.apex_machine.specs.State.{Channel, channel_set, Partition, Table, is_same, names_one_of, occupant_of, item_at, time_of}
use Rattle.apex_machine.specs.Step.{AllConfigured, OneConfigured, ChannelConfigured, KeepsSkew, HasNoneDue, HasPriority, HasCode, IsTaken, IsWithinProfile, NoneMissed, due_of}
use Rattle.apex_machine.specs.Waiting.{waits_at}
use Rattle.apex_types.specs.declared.record.ErrorReport.{ErrorReport}

-- what a piece demands of a record, and the cause that it reports if the demand fails
pub record Demand : Type 1 where
  pub cause : Cause
  pub holds : Type 0

-- all demands hold
abbrev pub AllHold : List {1} Demand → Type 0
AllHold [] = Unit {0}
AllHold (demand ∷ demands) = demand.holds × AllHold demands

-- the first demand that fails has this cause
abbrev pub FirstFails : List {1} Demand → Cause → Type 0
FirstFails [] cause = ⊥
FirstFails (demand ∷ demands) cause = ((¬ demand.holds) × (cause ≡ demand.cause)) ⊎ (demand.holds × FirstFails demands cause)

-- a judgement over demands: all of them hold, or it gives the cause of the first that fails
abbrev pub Judges : List {1} Demand → Result (Unit {0}) Cause → Type 0
Judges demands judgement = MatchResult judgement (λ _. AllHold demands) (λ cause. FirstFails demands cause)

-- a demand that applies only outside every window
abbrev pub InNoWindow : Option ℕ → Type 0 → Type 0
InNoWindow None Demanded = Demanded
InNoWindow (Some partition) Demanded = Unit {0}

-- a demand that applies only in the windows of this partition
abbrev pub InWindowOf : ℕ → Option ℕ → Type 0 → Type 0
InWindowOf number None Demanded = Unit {0}
InWindowOf number (Some partition) Demanded = partition ≡ number → Demanded

-- the window of a core at its present time
abbrev pub window_now : Configuration → List CoreState → ℕ → Option ℕ
window_now configuration cores core = window_at configuration core (time_of cores core)

-- the module

-- the names of an arrival or a departure are configured
abbrev pub crossing_names : Configuration → Crossing → Demand
crossing_names configuration crossing =
    record { cause = cause.Names; holds = AllConfigured configuration crossing.woken × IsTrue (has_channel configuration crossing.chan) }

-- the module: names are configured, a tick keeps the skew, and a core outside every window is idle. An arrival or a departure may be at any
-- time; the partition judges when an error may be reported
abbrev pub module_demands : Configuration → List CoreState → ℕ → Body → List {1} Demand
module_demands configuration cores core (Disp who) =
    record { cause = cause.Names; holds = OneConfigured configuration who }
    ∷ record { cause = cause.Idle; holds = InNoWindow (window_now configuration cores core) (who ≡ None) } ∷ []
module_demands configuration cores core (Tick woken) =
    record { cause = cause.Names; holds = AllConfigured configuration woken }
    ∷ record { cause = cause.Skew; holds = KeepsSkew (time_of cores core + 1) configuration.skew cores }
    ∷ record { cause = cause.Idle; holds = InNoWindow (window_now configuration cores core) (occupant_of cores core ≡ None) } ∷ []
module_demands configuration cores core (Call call) =
    record {
      cause = cause.Names;
      holds = IsTrue (has_partition configuration call.who.part) × AllConfigured configuration call.claim.woken × ChannelConfigured configuration call.claim.chan;
    }
    ∷ record { cause = cause.Idle; holds = InNoWindow (window_now configuration cores core) ⊥ } ∷ []
module_demands configuration cores core (Arrive crossing) = crossing_names configuration crossing ∷ []
module_demands configuration cores core (Depart crossing) = crossing_names configuration crossing ∷ []
module_demands configuration cores core (Error report) =
    record { cause = cause.Names; holds = IsTrue (has_partition configuration report.who.part) } ∷ []
module_demands configuration cores core (Ret ret) =
    record { cause = cause.Names; holds = IsTrue (has_partition configuration ret.who.part) }
    ∷ record { cause = cause.Idle; holds = InNoWindow (window_now configuration cores core) ⊥ } ∷ []

-- partitions: the outcome of their own calls

-- the occupant of a core is this process, and the process is the partition's choice
abbrev pub IsRunning : ℕ → List CoreState → Partition → ℕ → Who → Type 0
IsRunning number cores partition core who = (occupant_of cores core ≡ Some who) × (partition_choice number core partition ≡ Some who)

-- a time-out with which a caller may wait: there is one, and it is not 0
abbrev pub MayWait : Option ℤ → Type 0
MayWait None = ⊥
MayWait (Some time_out) = IsFalse (is_over time_out)

-- what a partition can see of the outcome of a call through a channel: the call does not fail to return, its code is neither that of an
-- error condition nor TIMED_OUT, and it waits only if its service may
abbrev pub CanHave : Request → Out → Type 0
CanHave asked out.Waits = MayWait (time_out_of asked)
CanHave asked (out.Answer code.NoError) = Unit {0}
CanHave asked (out.Answer code.NoAction) = Unit {0}
CanHave asked (out.Answer code.NotAvailable) = Unit {0}
CanHave asked _ = ⊥

-- what a call claims is the answer: its outcome, the values and the message that go with it, and the processes whose waits end
abbrev pub answer_demands : Answer → Claim → List {1} Demand
answer_demands answer claim =
    record { cause = cause.Out; holds = claim.out ≡ answer.out }
    ∷ record { cause = cause.Val; holds = HasValues answer.val answer.val2 answer.val3 claim }
    ∷ record { cause = cause.Data; holds = claim.bytes ≡ answer.bytes }
    ∷ record { cause = cause.Woken; holds = NamesExactly answer.woken claim.woken } ∷ []

-- the channel and the outcome of a call, by its error conditions and the channel through which it goes; the channel judges what it gives,
-- but a call through it wakes no process of the caller's own partition
abbrev pub outcome_demands : List Condition → Option ℕ → ℕ → Request → Answer → Claim → List {1} Demand
outcome_demands [] None number asked answer claim = record { cause = cause.Chan; holds = claim.chan ≡ None } ∷ answer_demands answer claim
outcome_demands [] (Some channel) number asked answer claim =
    record { cause = cause.Chan; holds = claim.chan ≡ Some channel }
    ∷ record { cause = cause.Out; holds = CanHave asked claim.out }
    ∷ record { cause = cause.Woken; holds = IsFalse (names_one_of number claim.woken) } ∷ []
outcome_demands (condition ∷ conditions) channel number asked answer claim =
    record { cause = cause.Chan; holds = claim.chan ≡ None }
    ∷ record { cause = cause.Out; holds = HasCode (condition ∷ conditions) claim.out }
    ∷ record { cause = cause.Val; holds = HasNoValues claim }
    ∷ record { cause = cause.Data; holds = claim.bytes ≡ [] }
    ∷ record { cause = cause.Woken; holds = claim.woken ≡ [] } ∷ []

-- what a partition demands of a call of its own process before it looks at the outcome: the caller runs in a window of the partition, no
-- missed deadline is left to report, no outcome is due to it, the call is within the profile, and the priority is the caller's
abbrev pub caller_demands : Configuration → ℕ → List CoreState → Partition → ℕ → CallRecord → List {1} Demand
caller_demands configuration number cores partition core call =
    record { cause = cause.Window; holds = window_now configuration cores core ≡ Some number }
    ∷ record { cause = cause.Deadline; holds = NoneMissed cores core partition }
    ∷ record { cause = cause.Choice; holds = IsRunning number cores partition core call.who }
    ∷ record { cause = cause.Return; holds = HasNoneDue (item_at partition.table call.who.proc) }
    ∷ record {
      cause = cause.OutsideProfile;
      holds = IsWithinProfile (conditions_of configuration (time_of cores core) call.who partition call.request) call.who partition call.request;
    }
    ∷ record { cause = cause.Prio; holds = HasPriority call.claim.prio (item_at partition.table call.who.proc) } ∷ []

-- a call of one of the partition's own processes
abbrev pub own_call_demands : Configuration → ℕ → List CoreState → Partition → ℕ → CallRecord → List {1} Demand
own_call_demands configuration number cores partition core call =
    caller_demands configuration number cores partition core call
    ++ outcome_demands (conditions_of configuration (time_of cores core) call.who partition call.request) (channel_of partition call.request) number call.request
    (answer_of configuration cores core call.who partition call.request) call.claim

-- partitions: the calls of others, the returns and the ticks

-- each process of this partition that is named waits in this set
abbrev pub AllWaitAt : WaitingSet → ℕ → Table → List Who → Type 0
AllWaitAt wanted number table [] = Unit {0}
AllWaitAt wanted number table (who ∷ others) = (who.part ≡ number → IsTrue (waits_at wanted (item_at table who.proc))) × AllWaitAt wanted number table others

-- a call of another partition ends only waits at its channel: a send ends waits to receive, a receive and CLEAR_QUEUING_PORT end waits to
-- send
abbrev pub WakesHere : Request → Option ℕ → ℕ → Table → List Who → Type 0
WakesHere (request.QueuingPort port (QueuingOperation.Send length time_out message)) (Some channel) number table woken =
    AllWaitAt (channel_set channel Receivers) number table woken
WakesHere (request.QueuingPort port (QueuingOperation.Receive time_out)) (Some channel) number table woken =
    AllWaitAt (channel_set channel Senders) number table woken
WakesHere (request.QueuingPort port QueuingOperation.Clear) (Some channel) number table woken =
    AllWaitAt (channel_set channel Senders) number table woken
WakesHere _ chan number table woken = ⊥

-- a call of another partition that names one of these processes
abbrev pub foreign_call_demands : Configuration → ℕ → List CoreState → Partition → ℕ → CallRecord → List {1} Demand
foreign_call_demands configuration number cores partition core call =
    record { cause = cause.Deadline; holds = InWindowOf number (window_now configuration cores core) (NoneMissed cores core partition) }
    ∷ record { cause = cause.Choice; holds = InWindowOf number (window_now configuration cores core) (IsRunning number cores partition core call.who) }
    ∷ record { cause = cause.Woken; holds = WakesHere call.request call.claim.chan number partition.table call.claim.woken } ∷ []

-- a call of one of the partition's own processes, or of another's
abbrev pub call_demands : Bool → Configuration → ℕ → List CoreState → Partition → ℕ → CallRecord → List {1} Demand
call_demands true configuration number cores partition core call = own_call_demands configuration number cores partition core call
call_demands false configuration number cores partition core call = foreign_call_demands configuration number cores partition core call

-- a fact about the outcome that is due, if one is
abbrev pub IfDue : Option Outcome → (Outcome → Type 0) → Type 0
IfDue None fact = ⊥
IfDue (Some outcome) fact = fact outcome

-- a return has the values of the outcome that is due
pub record ReturnsValues (outcome : Outcome) (ret : Return) : Type 0 where
  pub val : outcome.val ≡ ret.val
  pub val2 : outcome.val2 ≡ ret.val2
  pub val3 : outcome.val3 ≡ ret.val3

-- the process of an error: it has missed its deadline and runs on the core; with another error it is the occupant and the choice
abbrev pub process_demand : ErrorCode → ℕ → List CoreState → Partition → ℕ → Who → Demand
process_demand error.DeadlineMissed number cores partition core who =
    record { cause = cause.Deadline; holds = IsTrue (is_missed core (time_of cores core) (item_at partition.table who.proc)) }
process_demand _ number cores partition core who = record { cause = cause.Choice; holds = IsRunning number cores partition core who }

-- the report of an error: it comes in a window of the partition, is of a process that can have it, and restarts the partition exactly if no
-- handler takes it and the configuration says so
abbrev pub error_demands : Configuration → ℕ → List CoreState → Partition → ℕ → ErrorReport → List {1} Demand
error_demands configuration number cores partition core report =
    record { cause = cause.Window; holds = window_now configuration cores core ≡ Some number }
    ∷ process_demand report.error number cores partition core report.who
    ∷ record { cause = cause.Out; holds = restarts_by_error configuration number partition report.who.proc ≡ report.restarts } ∷ []

-- a partition: its windows, its deadlines, its choices, and the claims of its own calls and returns; of an arrival, that its processes that
-- are named wait to receive on that channel, and of a departure, that they wait to send
abbrev pub partition_demands : Configuration → ℕ → List CoreState → Partition → ℕ → Body → List {1} Demand
partition_demands configuration number cores partition core (Disp who) =
    record { cause = cause.Deadline; holds = InWindowOf number (window_now configuration cores core) (NoneMissed cores core partition) }
    ∷ record { cause = cause.Choice; holds = InWindowOf number (window_now configuration cores core) (partition_choice number core partition ≡ who) } ∷ []
partition_demands configuration number cores partition core (Tick woken) =
    record { cause = cause.Deadline; holds = InWindowOf number (window_now configuration cores core) (NoneMissed cores core partition) }
    ∷ record {
      cause = cause.Choice;
      holds = InWindowOf number (window_now configuration cores core) (partition_choice number core partition ≡ occupant_of cores core);
    }
    ∷ record { cause = cause.Woken; holds = NamesThoseDue number core (time_of cores core + 1) partition.table woken } ∷ []
partition_demands configuration number cores partition core (Call call) =
    call_demands (nat_eq call.who.part number) configuration number cores partition core call
partition_demands configuration number cores partition core (Ret ret) =
    let due : Option Outcome = due_of (item_at partition.table ret.who.proc) in
    record { cause = cause.Window; holds = window_now configuration cores core ≡ Some number }
    ∷ record { cause = cause.Deadline; holds = NoneMissed cores core partition }
    ∷ record { cause = cause.Choice; holds = IsRunning number cores partition core ret.who }
    ∷ record { cause = cause.Return; holds = IfDue due (λ outcome. outcome.service ≡ ret.service) }
    ∷ record { cause = cause.Out; holds = IfDue due (λ outcome. outcome.code ≡ ret.code) }
    ∷ record { cause = cause.Val; holds = IfDue due (λ outcome. ReturnsValues outcome ret) }
    ∷ record { cause = cause.Data; holds = IfDue due (λ outcome. outcome.bytes ≡ ret.bytes) } ∷ []
partition_demands configuration number cores partition core (Arrive crossing) =
    record { cause = cause.Woken; holds = AllWaitAt (channel_set crossing.chan Receivers) number partition.table crossing.woken } ∷ []
partition_demands configuration number cores partition core (Depart crossing) =
    record { cause = cause.Woken; holds = AllWaitAt (channel_set crossing.chan Senders) number partition.table crossing.woken } ∷ []
partition_demands configuration number cores partition core (Error report) = error_demands configuration number cores partition core report

-- channels

-- whether a process has an entry in a waiting set
abbrev pub has_entry_in : Who → List Entry → Bool
has_entry_in who [] = false
has_entry_in who (entry ∷ entries) = is_same who entry.who || has_entry_in who entries

-- a call through a channel: its caller waits at neither end, the service is one of the channel's kind, and the outcome is the
-- one that the channel gives
abbrev pub through_demands : Configuration → ℕ → ℕ → Channel → CallRecord → List {1} Demand
through_demands configuration now number channel call =
    record { cause = cause.Choice; holds = IsFalse (has_entry_in call.who channel.senders || has_entry_in call.who channel.receivers) }
    ∷ record { cause = cause.Chan; holds = IsTrue (suits_use configuration number call.who.part (use_of call.request) channel) }
    ∷ answer_demands (channel_effect configuration now number call.who.part (use_of call.request) channel).answer call.claim

-- a call, by whether it goes through the channel
abbrev pub used_demands : Bool → Configuration → ℕ → ℕ → Channel → CallRecord → List {1} Demand
used_demands true configuration now number channel call = through_demands configuration now number channel call
used_demands false configuration now number channel call = []

-- an arrival at a channel: its source is outside, the message is no longer than the channel's, and those that it wakes are named
abbrev pub arrival_demands : Configuration → ℕ → ℕ → Channel → Crossing → List {1} Demand
arrival_demands configuration now number channel crossing =
    record { cause = cause.Chan; holds = IsTrue (is_from_outside configuration number) }
    ∷ record { cause = cause.Data; holds = length crossing.message ≤ size_of configuration number }
    ∷ record { cause = cause.Woken; holds = NamesExactly (arrived configuration now number crossing.message channel).answer.woken crossing.woken } ∷ []

-- a departure from a channel: its destination is outside, the message is the oldest, and those that it wakes are named
abbrev pub departure_demands : Configuration → ℕ → ℕ → Channel → Crossing → List {1} Demand
departure_demands configuration now number channel crossing =
    record { cause = cause.Chan; holds = IsTrue (is_to_outside configuration number) }
    ∷ record { cause = cause.Data; holds = IsTaken (departed configuration now number channel).answer crossing.message }
    ∷ record { cause = cause.Woken; holds = NamesExactly (departed configuration now number channel).answer.woken crossing.woken } ∷ []

-- a demand list of the channel that a record names
abbrev pub where_named : Bool → List {1} Demand → List {1} Demand
where_named true demanded = demanded
where_named false demanded = []

-- a channel: the outcome of the calls through it, and the messages that arrive at it and depart from it
abbrev pub channel_demands : Configuration → ℕ → ℕ → Channel → Body → List {1} Demand
channel_demands configuration now number channel (Call call) =
    used_demands (is_channel number call.claim.chan) configuration now number channel call
channel_demands configuration now number channel (Arrive crossing) =
    where_named (nat_eq crossing.chan number) (arrival_demands configuration now number channel crossing)
channel_demands configuration now number channel (Depart crossing) =
    where_named (nat_eq crossing.chan number) (departure_demands configuration now number channel crossing)
channel_demands configuration now number channel _ = []

-- local steps

-- what the holder of a part demands of a record that touches it
abbrev pub demands : Configuration → Part → Ordered → List {1} Demand
demands configuration (ModulePart cores) ordered = module_demands configuration cores ordered.core ordered.rec.body
demands configuration (PartitionPart number cores partition) ordered =
    partition_demands configuration number cores partition ordered.core ordered.rec.body
demands configuration (ChannelPart number times channel) ordered =
    channel_demands configuration (time_at times ordered.core) number channel ordered.rec.body

-- the local step: all demands hold, and the part becomes what the record makes of it
abbrev pub LocalStep : Configuration → Part → Ordered → Part → Type 0
LocalStep configuration old ordered new =
    AllHold (demands configuration old ordered) × (new ≡ part_after configuration old ordered)
