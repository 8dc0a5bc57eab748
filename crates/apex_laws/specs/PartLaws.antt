-- The laws on one partition alone, for the piece that holds it: they follow from its own demands, whatever the other pieces do. Each is the
-- contract of a function in `src/lib.rt`.
use Rattle.std.specs.Prelude.{◌≡◌, ◌≤◌, ◌<◌, ℕ, ◌+◌, List, [], ◌∷◌, ◌++◌, Option, None, if◌then◌else◌, Bool, true, false, IsTrue, IsFalse}
use Rattle.apex_types.specs.declared.object_kind.ObjectKind.{ObjectKind}
use Rattle.apex_types.specs.declared.record.Body.TheVariants.{Arrive, Call, Depart, Disp, Error, Ret, Tick}
use Rattle.apex_types.specs.declared.record.Call.{Call as CallRecord}
use Rattle.apex_types.specs.declared.record.Crossing.{Crossing}
use Rattle.apex_types.specs.declared.record.ErrorReport.{ErrorReport}
use Rattle.apex_types.specs.declared.record.Ordered.{Ordered}
use Rattle.apex_types.specs.declared.record.Return.{Return}
use Rattle.apex_types.specs.declared.record.Who.{Who}
use Rattle.apex_types.specs.declared.operation.{BlackboardOperation.BlackboardOperation, CallerOperation.CallerOperation, EventOperation.EventOperation, ProcessOperation.ProcessOperation}
use Rattle.apex_types.specs.declared.request.Request.{Request}
use Rattle.apex_types.specs.declared.operation.ObjectOperation.TheVariants as on
use Rattle.apex_types.specs.declared.request.Request.TheVariants as request
use Rattle.apex_types.specs.Shapes.{kind_used}
use Rattle.apex_machine.specs.declared.state.CoreState.{CoreState}
use Rattle.apex_machine.specs.declared.state.WaitingSet.{WaitingSet}
use Rattle.apex_machine.specs.After.{is_done, lock_called, partition_after, partition_by, restart_reported}
use Rattle.apex_machine.specs.Arguments.{natural_of}
use Rattle.apex_machine.specs.Configuration.{Configuration}
use Rattle.apex_machine.specs.Demands.{AllHold, IsRunning, own_call_demands, partition_demands, has_entry_in}
use Rattle.apex_machine.specs.DueTimes.{waits_for_lock}
use Rattle.apex_machine.specs.Locks.{is_of_lock}
use Rattle.apex_machine.specs.Pieces.{stops_some}
use Rattle.apex_machine.specs.Ports.{channel_of}
use Rattle.apex_machine.specs.Services.{answer_of}
use Rattle.apex_machine.specs.State.{Partition, cold_partition, is_named, is_of_channel, is_of_object, item_at, objects_of}
use Rattle.apex_machine.specs.Waiting.{enters, entry_of, is_no_error, is_restart, set_after, stop_of, waits_at, without}
use Rattle.apex_laws.specs.Laws.{AllEntries, DormantWaitNot, IsInOrder, are_distinct, entries_at}

-- a sound partition

-- no two objects or ports of a kind have the same number
abbrev pub HasDistinctObjects : Partition → Type 0
HasDistinctObjects partition = (kind : ObjectKind) → IsTrue (are_distinct (objects_of partition kind))

-- the waiting set of a partition's lock is sound before this place: each process with an entry in it is of this partition and waits for the
-- lock; it is in order; and each process that waits for the lock has an entry in it
pub record IsSoundLock (number place : ℕ) (partition : Partition) : Type 0 where
  pub is_member : AllEntries (λ entry. (entry.who.part ≡ number) × IsTrue (waits_for_lock (item_at partition.table entry.who.proc))) partition.lock.waiters
  pub order : IsInOrder place partition.lock.waiters
  pub waiters : (process : ℕ) → IsTrue (waits_for_lock (item_at partition.table process))
      → IsTrue (has_entry_in (record { part = number; proc = process }) partition.lock.waiters)

-- a partition's waiting sets are sound before this place: numbers are distinct; each process with an entry in one of the sets is of this
-- partition and waits in the set; every set is in order; each process that waits in a set of one of the partition's objects has an entry in
-- it; no dormant process waits; and the set of the lock is sound
pub record IsSoundPart (number place : ℕ) (partition : Partition) : Type 0 where
  pub distinct : IsTrue (are_distinct partition.table)
  pub objects : HasDistinctObjects partition
  pub is_member : (wanted : WaitingSet)
      → AllEntries (λ entry. (entry.who.part ≡ number) × IsTrue (waits_at wanted (item_at partition.table entry.who.proc))) (entries_at partition wanted)
  pub order : (wanted : WaitingSet) → IsInOrder place (entries_at partition wanted)
  pub waiters : (wanted : WaitingSet) (process : ℕ) → IsFalse (is_of_channel wanted) → IsTrue (waits_at wanted (item_at partition.table process))
      → IsTrue (has_entry_in (record { part = number; proc = process }) (entries_at partition wanted))
  pub dormant : DormantWaitNot partition.table
  pub lock : IsSoundLock number place partition

-- the cold partition is sound; a record whose demands hold keeps a partition sound; and a sound partition is sound before every
-- later place
abbrev pub PartStaysSound : Type 0
PartStaysSound =
    ((configuration : Configuration) (number place : ℕ) → IsSoundPart number place (cold_partition configuration number))
    × ((configuration : Configuration) (number : ℕ) (cores : List CoreState) (partition : Partition) (ordered : Ordered)
    → IsSoundPart number ordered.pos partition → AllHold (partition_demands configuration number cores partition ordered.core ordered.rec.body)
    → IsSoundPart number (ordered.pos + 1) (partition_after configuration cores number ordered partition))
    × ((number place later : ℕ) (partition : Partition) → place ≤ later → IsSoundPart number place partition → IsSoundPart number later partition)

-- own calls

-- a process that runs on a core of a sound partition has no entry in any of the partition's waiting sets, nor in that of the lock, and all
-- places in them are below this one
abbrev pub RunningIsInNoSet : Type 0
RunningIsInNoSet =
    (number place core : ℕ) (cores : List CoreState) (partition : Partition) (who : Who)
    → IsSoundPart number place partition → IsRunning number cores partition core who
    → ((wanted : WaitingSet) → IsFalse (has_entry_in who (entries_at partition wanted)) × AllEntries (λ entry. entry.place < place) (entries_at partition wanted))
    × (IsFalse (has_entry_in who partition.lock.waiters) × AllEntries (λ entry. entry.place < place) partition.lock.waiters)

-- a call of one of a sound partition's own processes, all of whose demands hold
pub record IsOwnCall (configuration : Configuration) (number place core : ℕ) (cores : List CoreState) (partition : Partition) (call : CallRecord) : Type 0 where
  pub sound : IsSoundPart number place partition
  pub own : call.who.part ≡ number
  pub demands : AllHold (own_call_demands configuration number cores partition core call)

-- whether a request stops a process: STOP, or STOP_SELF
abbrev pub stops_one : Request → Bool
stops_one (request.Process process ProcessOperation.Stop) = true
stops_one (request.Caller CallerOperation.StopSelf) = true
stops_one _ = false

-- whether a request uses a waiting set of the object that it names; CLEAR_BLACKBOARD and RESET_EVENT use none, and the services of queuing
-- ports use sets of channels, which no partition holds
abbrev pub is_set_used : Request → WaitingSet → Bool
is_set_used (request.Object blackboard (on.Blackboard BlackboardOperation.Clear)) wanted = false
is_set_used (request.Object event (on.Event EventOperation.Reset)) wanted = false
is_set_used (request.Object number operation) wanted = is_of_object (kind_used operation) (natural_of number) wanted
is_set_used (request.QueuingPort port operation) wanted = is_of_channel wanted
is_set_used _ wanted = false

-- an own call that stops no process leaves unchanged every waiting set that its request does not use
abbrev pub OtherSetsStay : Type 0
OtherSetsStay =
    (configuration : Configuration) (number place core : ℕ) (cores : List CoreState) (partition : Partition) (call : CallRecord)
    → IsOwnCall configuration number place core cores partition call → IsFalse (stops_some call)
    → (wanted : WaitingSet) → IsFalse (is_set_used call.request wanted) → set_after place (Call call) wanted (entries_at partition wanted) ≡ entries_at partition wanted

-- an own call that does not answer NO_ERROR and is no restart ends no wait in the partition: a caller that waits enters its set at the end,
-- and all else stays
abbrev pub OnlyDoneLetsGo : Type 0
OnlyDoneLetsGo =
    (configuration : Configuration) (number place core : ℕ) (cores : List CoreState) (partition : Partition) (call : CallRecord)
    → IsOwnCall configuration number place core cores partition call → IsFalse (is_no_error call.claim.out) → IsFalse (is_restart call)
    → (wanted : WaitingSet) → set_after place (Call call) wanted (entries_at partition wanted)
    ≡ (if enters call wanted then entries_at partition wanted ++ entry_of place call ∷ [] else entries_at partition wanted)

-- an own call that answers NO_ERROR, is no STOP and goes through no channel ends the waits of the processes that its service's answer
-- names: those leave, and no process enters
abbrev pub LetsGoAsAnswered : Type 0
LetsGoAsAnswered =
    (configuration : Configuration) (number place core : ℕ) (cores : List CoreState) (partition : Partition) (call : CallRecord)
    → IsOwnCall configuration number place core cores partition call → IsTrue (is_no_error call.claim.out) → stop_of call.request ≡ None
    → channel_of partition call.request ≡ None
    → (wanted : WaitingSet) → set_after place (Call call) wanted (entries_at partition wanted)
    ≡ without (λ who. is_named who (answer_of configuration cores core call.who partition call.request).woken) (entries_at partition wanted)

-- the lock

-- an own call leaves the lock unchanged, unless it is one of the lock, a stop or a restart
abbrev pub OtherCallsLeaveLock : Type 0
OtherCallsLeaveLock =
    (configuration : Configuration) (number place core : ℕ) (cores : List CoreState) (partition : Partition) (call : CallRecord)
    → IsOwnCall configuration number place core cores partition call → IsFalse (is_of_lock call.request) → IsFalse (stops_one call.request) → IsFalse (is_restart call)
    → lock_called place call partition.lock ≡ partition.lock

-- an own call that is not done leaves the lock unchanged
abbrev pub RefusedLeavesLock : Type 0
RefusedLeavesLock =
    (configuration : Configuration) (number place core : ℕ) (cores : List CoreState) (partition : Partition) (call : CallRecord)
    → IsOwnCall configuration number place core cores partition call → IsFalse (is_done call.claim.out) → lock_called place call partition.lock ≡ partition.lock

-- ticks

-- a tick leaves a waiting set unchanged if no process that the tick names waits in it; so it is enough that each process that is named
-- leaves the set that its wait names
abbrev pub DueLeave : Type 0
DueLeave =
    (number place : ℕ) (partition : Partition) (woken : List Who) → IsSoundPart number place partition
    → (wanted : WaitingSet)
    → ((process : ℕ) → IsTrue (is_named (record { part = number; proc = process }) woken) → IsFalse (waits_at wanted (item_at partition.table process)))
    → set_after place (Tick woken) wanted (entries_at partition wanted) ≡ entries_at partition wanted

-- other records

-- a partition is as before except for its processes: its mode, its objects with their waiting sets, and its ports stay
abbrev pub OnlyProcessesChange : Partition → Partition → Type 0
OnlyProcessesChange before after = after ≡ record before { table = after.table }

-- a partition is as before except for its processes and its listed errors
abbrev pub OnlyErrorsChange : Partition → Partition → Type 0
OnlyErrorsChange before after = after ≡ record before { table = after.table; errors = after.errors }

-- calls of other partitions, arrivals, departures, returns, dispatches and errors that restart no partition leave a partition's objects,
-- waiting sets and ports unchanged; a dispatch leaves everything unchanged
abbrev pub ForeignCallsLeaveSets : Type 0
ForeignCallsLeaveSets =
    (configuration : Configuration) (cores : List CoreState) (place core number : ℕ) (partition : Partition)
    → ((call : CallRecord) → ¬ (call.who.part ≡ number) → OnlyProcessesChange partition (partition_by configuration cores place core number (Call call) partition))
    × ((crossing : Crossing) → OnlyProcessesChange partition (partition_by configuration cores place core number (Arrive crossing) partition))
    × ((crossing : Crossing) → OnlyProcessesChange partition (partition_by configuration cores place core number (Depart crossing) partition))
    × ((ret : Return) → OnlyProcessesChange partition (partition_by configuration cores place core number (Ret ret) partition))
    × ((who : Option Who) → partition_by configuration cores place core number (Disp who) partition ≡ partition)
    × ((report : ErrorReport) → restart_reported configuration report ≡ None → OnlyErrorsChange partition (partition_by configuration cores place core number (Error report) partition))
