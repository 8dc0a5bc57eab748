-- What shows that a demand of a piece fails: for each cause, what the machine has in its place.
use Rattle.std.specs.Prelude.{◌≡◌, ℕ, ◌+◌, List, [], ◌∷◌, Option, Some, None, Bool, true, false, nat_eq, nat_le, not, ◌&&◌, ◌||◌, IsFalse, IsTrue, option_map}
use Rattle.std.specs.List.{find, position_from}
use Rattle.apex_types.specs.declared.cause.Cause.{Cause}
use Rattle.apex_types.specs.declared.cause.Cause.TheVariants as cause
use Rattle.apex_types.specs.declared.record.Body.{Body}
use Rattle.apex_types.specs.declared.record.Body.TheVariants.{Arrive, Call, Depart, Ret, Disp, Tick, Error}
use Rattle.apex_types.specs.declared.record.Call.{Call as CallRecord}
use Rattle.apex_types.specs.declared.record.Ordered.{Ordered}
use Rattle.apex_types.specs.declared.record.Who.{Who}
use Rattle.apex_types.specs.declared.request.Request.{Request}
use Rattle.apex_types.specs.declared.request.Request.TheVariants as request
use Rattle.apex_machine.specs.declared.condition.Condition.{Condition}
use Rattle.apex_machine.specs.declared.state.CoreState.{CoreState}
use Rattle.apex_machine.specs.declared.state.Outcome.{Outcome}
use Rattle.apex_machine.specs.declared.state.Process.{Process}
use Rattle.apex_types.specs.declared.shape.End.TheVariants.{Senders, Receivers}
use Rattle.apex_machine.specs.Channels.{has_channel, is_from_outside, is_to_outside, size_of}
use Rattle.apex_machine.specs.Choice.{partition_choice}
use Rattle.apex_machine.specs.Conditions.{owns_mutex}
use Rattle.apex_machine.specs.Configuration.{Configuration, has_partition}
use Rattle.apex_machine.specs.Demands.{AllWaitAt, WakesHere, has_entry_in, window_now}
use Rattle.apex_machine.specs.Deadlines.{has_missed}
use Rattle.apex_machine.specs.DueTimes.{falls_due}
use Rattle.apex_machine.specs.Errors.{restarts_by_error}
use Rattle.apex_machine.specs.Objects.{is_owner}
use Rattle.apex_machine.specs.Pieces.{ChannelPart, ModulePart, Part, PartitionPart, time_at}
use Rattle.apex_machine.specs.Ports.{Ask, arrived, channel_effect, channel_of, departed, suits_use, use_of}
use Rattle.apex_machine.specs.ServiceConditions.{conditions_of}
use Rattle.apex_machine.specs.Services.{Answer, answer_of, in_profile, natural_of, waits_for_mutex}
use Rattle.apex_machine.specs.State.{Channel, Content, Mutex, Partition, Queued, Sampled, Table, channel_set, is_named, item_at, occupant_of, time_of}
use Rattle.apex_machine.specs.Step.{ChannelConfigured, due_of}
use Rattle.channel.specs.Kinds.{is_sampled}
use Rattle.partition_state.specs.Calls.{creates}
use Rattle.wait_set.specs.Givens.{answer_given}
use Rattle.piece_check.specs.declared.evidence.Evidence.{Evidence}
use Rattle.piece_check.specs.declared.evidence.Evidence.TheVariants as evidence
use Rattle.piece_check.specs.declared.misnaming.Misnaming.{Misnaming}
use Rattle.piece_check.specs.declared.misnaming.Misnaming.TheVariants as misnaming

-- the module

-- the processes that a record names
abbrev pub processes_named : Body → List Who
processes_named (Call call) = call.who ∷ call.claim.woken
processes_named (Ret ret) = ret.who ∷ []
processes_named (Disp None) = []
processes_named (Disp (Some who)) = who ∷ []
processes_named (Tick woken) = woken
processes_named (Arrive crossing) = crossing.woken
processes_named (Depart crossing) = crossing.woken
processes_named (Error report) = report.who ∷ []

-- the channel that a record names
abbrev pub channel_named : Body → Option ℕ
channel_named (Call call) = call.claim.chan
channel_named (Arrive crossing) = Some crossing.chan
channel_named (Depart crossing) = Some crossing.chan
channel_named _ = None

-- the first of these processes whose partition is not configured
abbrev pub first_unknown : Configuration → List Who → Option Who
first_unknown configuration named = find (λ who. not (has_partition configuration who.part)) named

-- Names: the partition of the first process whose partition is not configured; else the channel that is not configured
abbrev pub ShowsNames : Configuration → Option Who → Option ℕ → Evidence → Type 0
ShowsNames configuration (Some who) channel (evidence.UnknownPartition number) = number ≡ who.part
ShowsNames configuration None channel (evidence.UnknownChannel number) = (channel ≡ Some number) × IsFalse (has_channel configuration number)
ShowsNames configuration None channel evidence.Nothing = ChannelConfigured configuration channel
ShowsNames configuration unknown channel _ = ⊥

-- whether a core whose time is this would be more than the skew ahead of another core after its tick
abbrev pub leaves_back : Configuration → ℕ → CoreState → Bool
leaves_back configuration time other = not (nat_le (time + 1) (other.time + configuration.skew))

-- Skew: the first core that the tick's own core would be more than the skew ahead of
abbrev pub ShowsSkew : Option ℕ → Evidence → Type 0
ShowsSkew (Some core) shown = shown ≡ evidence.LeftBack core
ShowsSkew None shown = shown ≡ evidence.Nothing

-- what the module shows
abbrev pub ShowsOfModule : Configuration → List CoreState → ℕ → Body → Cause → Evidence → Type 0
ShowsOfModule configuration cores core body cause.Names shown =
    ShowsNames configuration (first_unknown configuration (processes_named body)) (channel_named body) shown
ShowsOfModule configuration cores core body cause.Skew shown = ShowsSkew (position_from (leaves_back configuration (time_of cores core)) 0 cores) shown
ShowsOfModule configuration cores core body cause.Idle shown = shown ≡ evidence.Window (window_now configuration cores core) (occupant_of cores core)
ShowsOfModule configuration cores core body _ shown = shown ≡ evidence.Nothing

-- partitions

-- the pending outcome of a process, if there is one
abbrev pub ShowsPending : Option Outcome → Evidence → Type 0
ShowsPending (Some outcome) (evidence.Pending pending) = pending.now ≡ outcome
ShowsPending None evidence.NothingPending = Unit {0}
ShowsPending outcome _ = ⊥

-- the process to which the profile applies: the one that the request names, else the caller
abbrev pub target_of : Who → Request → ℕ
target_of who (request.Process process operation) = natural_of process
target_of who _ = who.proc

-- OutsideProfile: the process is the initialising one, owns a mutex, or waits for one
abbrev pub ShowsOutside : Who → Partition → Request → Evidence → Type 0
ShowsOutside who partition asked evidence.Initialising = IsFalse (in_profile who partition asked) × (who.proc ≡ 0)
ShowsOutside who partition asked evidence.OwnsMutex = IsFalse (in_profile who partition asked) × IsTrue (owns_mutex partition.mutexes (target_of who asked))
ShowsOutside who partition asked evidence.WaitsForMutex =
    IsFalse (in_profile who partition asked) × IsTrue (waits_for_mutex partition.table (target_of who asked))
ShowsOutside who partition asked evidence.Nothing = IsTrue (in_profile who partition asked)
ShowsOutside who partition asked _ = ⊥

-- the number of the first mutex for which this holds
abbrev pub first_mutex : (Mutex → Bool) → List (ℕ × Mutex) → Option ℕ
first_mutex holds mutexes = option_map (λ entry. entry.0) (find (λ entry. holds entry.1) mutexes)

-- whether a mutex has this priority and another owner than this process, or none
abbrev pub is_elsewhere : ℕ → ℕ → Mutex → Bool
is_elsewhere priority process mutex = nat_eq mutex.priority priority && not (is_owner mutex.owner process)

-- Prio: the caller's current and base priority, and the one that it had before it acquired a mutex; the first mutex that it owns; and the
-- first that has the recorded priority and that it does not own
abbrev pub ShowsPriority : List (ℕ × Mutex) → ℕ → ℕ → Option Process → Evidence → Type 0
ShowsPriority mutexes number recorded (Some process) shown =
    shown
    ≡ evidence.Priority process.current_priority process.base_priority process.retained_priority (first_mutex (λ mutex. is_owner mutex.owner number) mutexes)
    (first_mutex (is_elsewhere recorded number) mutexes)
ShowsPriority mutexes number recorded None shown = shown ≡ evidence.Nothing

-- a claim: the error conditions that hold; else the channel of the port; else what the service gives, which for a creation is a new number
abbrev pub ShowsClaim : List Condition → Option ℕ → Bool → Answer → Evidence → Type 0
ShowsClaim (condition ∷ conditions) channel is_creation answer (evidence.Conditions held) = held ≡ condition ∷ conditions
ShowsClaim [] (Some channel) is_creation answer (evidence.Through shown) = shown ≡ channel
ShowsClaim [] None is_creation answer (evidence.Answer given) = answer_given given ≡ answer
ShowsClaim [] None is_creation answer evidence.NewNumber = IsTrue is_creation
ShowsClaim conditions channel is_creation answer _ = ⊥

-- what is shown of a call of one of the partition's own processes
abbrev pub ShowsOfCall : Configuration → List CoreState → Partition → ℕ → CallRecord → Cause → Evidence → Type 0
ShowsOfCall configuration cores partition core call cause.Return shown = ShowsPending (due_of (item_at partition.table call.who.proc)) shown
ShowsOfCall configuration cores partition core call cause.OutsideProfile shown = ShowsOutside call.who partition call.request shown
ShowsOfCall configuration cores partition core call cause.Prio shown =
    ShowsPriority partition.mutexes call.who.proc call.claim.prio (item_at partition.table call.who.proc) shown
ShowsOfCall configuration cores partition core call _ shown =
    ShowsClaim (conditions_of configuration (time_of cores core) call.who partition call.request) (channel_of partition call.request) (creates call.request)
    (answer_of configuration cores core call.who partition call.request) shown

-- what is shown of a call; of another partition's call, the processes that it names, which `may_wake` and `misnaming` judge
abbrev pub ShowsOfAnyCall : Bool → Configuration → List CoreState → Partition → ℕ → CallRecord → Cause → Evidence → Type 0
ShowsOfAnyCall true configuration cores partition core call cause shown = ShowsOfCall configuration cores partition core call cause shown
ShowsOfAnyCall false configuration cores partition core call cause shown = shown ≡ evidence.Named

-- Deadline, of a record that no missed deadline may come before: the first process that has missed its deadline, with the deadline
abbrev pub ShowsMissed : ℕ → Option (ℕ × Process) → Evidence → Type 0
ShowsMissed number (Some entry) (evidence.Missed who deadline) = (who ≡ record { part = number; proc = entry.0 }) × (entry.1.deadline ≡ Some deadline)
ShowsMissed number None evidence.Nothing = Unit {0}
ShowsMissed number found _ = ⊥

-- Deadline, of an error: the core and the deadline of the process, if there is one of its number
abbrev pub ShowsDeadline : Option Process → Evidence → Type 0
ShowsDeadline (Some process) shown = shown ≡ evidence.Deadline process.affinity process.deadline
ShowsDeadline None shown = shown ≡ evidence.Nothing

-- what is shown of the deadlines of a partition, by the record
abbrev pub ShowsOfDeadlines : ℕ → List CoreState → Table → ℕ → Body → Evidence → Type 0
ShowsOfDeadlines number cores table core (Error report) shown = ShowsDeadline (item_at table report.who.proc) shown
ShowsOfDeadlines number cores table core body shown = ShowsMissed number (find (λ entry. has_missed core (time_of cores core) entry.1) table) shown

-- what is shown of a record: of a return the pending outcome, of a tick, an arrival and a departure the processes that it names, of an error
-- whether it restarts the partition
abbrev pub ShowsOfBody : Configuration → ℕ → List CoreState → Partition → ℕ → Body → Cause → Evidence → Type 0
ShowsOfBody configuration number cores partition core (Call call) cause shown =
    ShowsOfAnyCall (nat_eq call.who.part number) configuration cores partition core call cause shown
ShowsOfBody configuration number cores partition core (Ret ret) cause shown = ShowsPending (due_of (item_at partition.table ret.who.proc)) shown
ShowsOfBody configuration number cores partition core (Tick woken) cause shown = shown ≡ evidence.Named
ShowsOfBody configuration number cores partition core (Arrive crossing) cause shown = shown ≡ evidence.Named
ShowsOfBody configuration number cores partition core (Depart crossing) cause shown = shown ≡ evidence.Named
ShowsOfBody configuration number cores partition core (Disp who) cause shown = shown ≡ evidence.Nothing
ShowsOfBody configuration number cores partition core (Error report) cause shown =
    shown ≡ evidence.Restart (restarts_by_error configuration number partition report.who.proc)

-- what a partition shows: the window of the core, or its choice, each with the occupant; a deadline; else what the record shows. Names, Skew
-- and Idle are demands of the module alone
abbrev pub ShowsOfPartition : Configuration → ℕ → List CoreState → Partition → ℕ → Body → Cause → Evidence → Type 0
ShowsOfPartition configuration number cores partition core body cause.Names shown = shown ≡ evidence.Nothing
ShowsOfPartition configuration number cores partition core body cause.Skew shown = shown ≡ evidence.Nothing
ShowsOfPartition configuration number cores partition core body cause.Idle shown = shown ≡ evidence.Nothing
ShowsOfPartition configuration number cores partition core body cause.Window shown =
    shown ≡ evidence.Window (window_now configuration cores core) (occupant_of cores core)
ShowsOfPartition configuration number cores partition core body cause.Deadline shown = ShowsOfDeadlines number cores partition.table core body shown
ShowsOfPartition configuration number cores partition core body cause.Choice shown =
    shown ≡ evidence.Choice (partition_choice number core partition) (occupant_of cores core)
ShowsOfPartition configuration number cores partition core body cause shown = ShowsOfBody configuration number cores partition core body cause shown

-- channels

-- Choice: the caller waits at an end of the channel
abbrev pub ShowsWaits : Bool → Evidence → Type 0
ShowsWaits true shown = shown ≡ evidence.Waits
ShowsWaits false shown = shown ≡ evidence.Nothing

-- a claim: what the channel gives, or that the service does not suit it: it is of the other kind, or it asks for the status from neither
-- end
abbrev pub ShowsThrough : Bool → Answer → Request → Channel → Evidence → Type 0
ShowsThrough suited answer asked channel (evidence.Answer given) = IsTrue suited × (answer_given given ≡ answer)
ShowsThrough suited answer asked channel evidence.OtherKind = IsFalse suited
ShowsThrough suited answer asked channel evidence.AtNeitherEnd = IsFalse suited × (use_of asked ≡ Some Ask) × IsFalse (is_sampled channel.content)
ShowsThrough suited answer asked channel _ = ⊥

-- Chan, of a message that arrives or departs: the end is inside the module
abbrev pub ShowsEnd : Bool → Evidence → Type 0
ShowsEnd true shown = shown ≡ evidence.Nothing
ShowsEnd false shown = shown ≡ evidence.Inside

-- what a message that arrives or departs gives
abbrev pub ShowsGiven : Answer → Evidence → Type 0
ShowsGiven answer (evidence.Answer given) = answer_given given ≡ answer
ShowsGiven answer _ = ⊥

-- what a channel shows of a message that arrives, at this time of its core
abbrev pub ShowsArrival : Configuration → ℕ → ℕ → Channel → List ℕ → Cause → Evidence → Type 0
ShowsArrival configuration now number channel message cause.Chan shown = ShowsEnd (is_from_outside configuration number) shown
ShowsArrival configuration now number channel message cause.Data shown = shown ≡ evidence.Size (size_of configuration number)
ShowsArrival configuration now number channel message cause.Woken shown = ShowsGiven (arrived configuration now number message channel).answer shown
ShowsArrival configuration now number channel message _ shown = shown ≡ evidence.Nothing

-- the same of a departure from a channel with this content: nothing departs from a sampling channel
abbrev pub ShowsDeparted : Content → Answer → Evidence → Type 0
ShowsDeparted (Queued messages) answer shown = ShowsGiven answer shown
ShowsDeparted (Sampled last) answer shown = shown ≡ evidence.Nothing

-- what a channel shows of a message that departs, at this time of its core
abbrev pub ShowsDeparture : Configuration → ℕ → ℕ → Channel → Cause → Evidence → Type 0
ShowsDeparture configuration now number channel cause.Chan shown = ShowsEnd (is_to_outside configuration number) shown
ShowsDeparture configuration now number channel cause.Data shown = ShowsDeparted channel.content (departed configuration now number channel).answer shown
ShowsDeparture configuration now number channel cause.Woken shown = ShowsDeparted channel.content (departed configuration now number channel).answer shown
ShowsDeparture configuration now number channel _ shown = shown ≡ evidence.Nothing

-- what a channel shows of a call at this time of its caller's core, and of an arrival and a departure
abbrev pub ShowsOfChannel : Configuration → ℕ → ℕ → Channel → Body → Cause → Evidence → Type 0
ShowsOfChannel configuration now number channel (Call call) cause.Choice shown =
    ShowsWaits (has_entry_in call.who channel.senders || has_entry_in call.who channel.receivers) shown
ShowsOfChannel configuration now number channel (Call call) cause shown =
    ShowsThrough (suits_use configuration number call.who.part (use_of call.request) channel)
    (channel_effect configuration now number call.who.part (use_of call.request) channel).answer call.request channel shown
ShowsOfChannel configuration now number channel (Arrive crossing) cause shown = ShowsArrival configuration now number channel crossing.message cause shown
ShowsOfChannel configuration now number channel (Depart crossing) cause shown = ShowsDeparture configuration now number channel cause shown
ShowsOfChannel configuration now number channel body cause shown = shown ≡ evidence.Nothing

-- any piece

-- the evidence of a record's refusal for a cause
abbrev pub IsEvidence : Configuration → Part → Ordered → Cause → Evidence → Type 0
IsEvidence configuration (ModulePart cores) ordered cause shown = ShowsOfModule configuration cores ordered.core ordered.rec.body cause shown
IsEvidence configuration (PartitionPart number cores partition) ordered cause shown =
    ShowsOfPartition configuration number cores partition ordered.core ordered.rec.body cause shown
IsEvidence configuration (ChannelPart number times channel) ordered cause shown =
    ShowsOfChannel configuration (time_at times ordered.core) number channel ordered.rec.body cause shown

-- the processes that a record names

-- how a record names a process wrongly, by whether the process's wait ends and whether the record names it
abbrev pub misnamed : Bool → Bool → Option Misnaming
misnamed true false = Some misnaming.Missing
misnamed false true = Some misnaming.Unexpected
misnamed true true = None
misnamed false false = None

-- how a tick names a process of the part's partition wrongly, by whether the process's wait falls due and whether the tick names it
abbrev pub misnamed_at_tick : Part → ℕ → List Who → ℕ → Option Misnaming
misnamed_at_tick (PartitionPart number cores partition) core woken process =
    misnamed (falls_due core (time_of cores core + 1) (item_at partition.table process)) (is_named (record { part = number; proc = process }) woken)
misnamed_at_tick (ModulePart cores) core woken process = None
misnamed_at_tick (ChannelPart number times channel) core woken process = None

-- a record of others can end the wait of this process of a partition of this number and this table
abbrev pub EndsWait : ℕ → Table → Body → ℕ → Type 0
EndsWait number table (Call call) process = WakesHere call.request call.claim.chan number table (record { part = number; proc = process } ∷ [])
EndsWait number table (Arrive crossing) process =
    AllWaitAt (channel_set crossing.chan Receivers) number table (record { part = number; proc = process } ∷ [])
EndsWait number table (Depart crossing) process =
    AllWaitAt (channel_set crossing.chan Senders) number table (record { part = number; proc = process } ∷ [])
EndsWait number table _ process = ⊥

-- a record of others can end the wait of this process of the part's partition
abbrev pub MayWake : Part → Body → ℕ → Type 0
MayWake (PartitionPart number cores partition) body process = EndsWait number partition.table body process
MayWake (ModulePart cores) body process = ⊥
MayWake (ChannelPart number times channel) body process = ⊥
