-- A partition stays sound, by its own demands.
use Rattle.std.proofs.Common.{◌≡◌, ℕ, suc, ◌+◌, ◌<◌, ◌≤◌, List, [], ◌∷◌, ◌++◌, Bool, true, false, cond, nat_eq, ℤ, Option, Some, None, IsTrue, refl, sym, ap, subst, ◌∙◌, arith, true≢false}
use Rattle.std.proofs.lemmas.Bool.{eqb-true}
use Rattle.std.proofs.lemmas.List.{append-nil}
use Rattle.apex_types.specs.declared.object_kind.ObjectKind.TheVariants as kind
use Rattle.apex_laws.proofs.Common.{AllEntries, AllHold, AllWaitAt, Answer, Body, Call, CallRecord, Claim, Condition, Configuration, CoreState, Disp, Entry, HasDistinctObjects, HasValue, IsInOrder, IsSoundPart, Mode, Partition}
use Rattle.apex_laws.proofs.Common.{PartStaysSound, QueuingOperation, Receivers, Request, Ret, RunningIsInNoSet, SamplingOperation, Senders, Table, Tick, WaitingSet, WakesHere, Who, answer_of, are_distinct, call_demands, channel_of}
use Rattle.apex_laws.proofs.Common.{channel_set, cold_partition, conditions_of, each_item, each_set, ends_wait, entries_at, first_core, has_entry_in, is_done, is_free, is_named, is_new, is_of_channel, is_same, item_at, kind_of, kind_used}
use Rattle.apex_laws.proofs.Common.{new_object, numbered_if, objects_by, objects_called, objects_of, outcome_demands, own_call_demands, partition_by, partition_called, partition_demands, returned, set_after, started_partition, ticked}
use Rattle.apex_laws.proofs.Common.{waits_at}
use Rattle.apex_laws.proofs.Common.{Arrive, Depart, IsSoundLock, Lock, StartCondition, first_processes, lock_left, message_of, waits_for_lock, time_of, Error, ErrorHandler, ListedError, errors_after, reported, restarts_by_error}
use Rattle.apex_laws.proofs.Awaited.{Awaited, lock_awaits}
use Rattle.apex_laws.proofs.LockTies.{each_lock_entry}
use Rattle.apex_laws.proofs.Wakes.{lock_waits_not}
use Rattle.apex_laws.proofs.Booleans.{cannot_hold, differs_back, either_way, holds_if, never_found, other_holds}
use Rattle.apex_laws.proofs.Choices.{choice_exists, FoundReady, ready_waits_not, ready_waits_not_for_lock}
use Rattle.apex_laws.proofs.Codes.{not_done}
use Rattle.apex_laws.proofs.Dormant.{dormant_by, start_dormant}
use Rattle.apex_laws.proofs.Errors.{demanded_restart, told_restarts}
use Rattle.apex_laws.proofs.Exact.{lock_has_entry, not_stopped, object_has_entry}
use Rattle.apex_laws.proofs.Distinct.{CallsClaimValues, distinct_by, distinct_new}
use Rattle.apex_laws.proofs.Keeps.{CallsReady, each_entry, entered_waits, entered_waits_for_lock, EntersLockWith, EntersWith, IsElsewhere, LeavesSets, IsReadyCall, keeps_waiting, keeps_waiting_for_lock, leaves, lock_set_after, one_set_after, error_ends_none}
use Rattle.apex_laws.proofs.Objects.{of_objects}
use Rattle.apex_laws.proofs.Restarts.{call_case, done_case, goes_on, restarts_other, return_case, start_awaits_not, start_set, start_waits_not, woken_table, error_case}
use Rattle.apex_laws.proofs.SetNames.{off_channel, put_holds}
use Rattle.apex_laws.proofs.Stays.{EntersNew, lock_stays_in_order, none_in_order, set_stays_in_order}
use Rattle.apex_laws.proofs.Tables.{distinct_each}
use Rattle.apex_laws.proofs.Waiters.{all_weaker, member_not}
use Rattle.apex_laws.proofs.WaitersOf.{same_is}

-- own calls, by their demands

-- a call that is done meets no error condition
pub demands_none : (conditions : List Condition) (channel : Option ℕ) (number : ℕ) (asked : Request) (answer : Answer) (claim : Claim)
    → AllHold (outcome_demands conditions channel number asked answer claim) → is_done claim.out ≡ true → conditions ≡ []
demands_none [] channel number asked answer claim hold done = refl
demands_none (condition ∷ conditions) channel number asked answer claim hold done = absurd (true≢false (sym done ∙ not_done (condition ∷ conditions) claim.out hold.1.0))

-- if it goes through no channel, it claims the value of its service
demands_value : (conditions : List Condition) (channel : Option ℕ) (number : ℕ) (asked : Request) (answer : Answer) (claim : Claim) → conditions ≡ [] → channel ≡ None
    → AllHold (outcome_demands conditions channel number asked answer claim) → HasValue answer.val claim.val
demands_value [] None number asked answer claim none off hold = hold.1.1.0.val
demands_value [] (Some channel) number asked answer claim none off hold = never_found (sym off)
demands_value (condition ∷ conditions) channel number asked answer claim none off hold = cc

-- so the caller is ready, and if the call is done, no error condition holds
pub own_ready : (configuration : Configuration) (number core : ℕ) (cores : List CoreState) (partition : Partition) (call : CallRecord)
    → are_distinct partition.table ≡ true → AllHold (own_call_demands configuration number cores partition core call) → IsReadyCall configuration partition core call
own_ready configuration number core cores partition call distinct hold = record {
  ready = choice_exists number core partition call.who distinct hold.1.1.0.1;
  now = time_of cores core;
  none = λ done. demands_none (conditions_of configuration (time_of cores core) call.who partition call.request) (channel_of partition call.request) number call.request
      (answer_of configuration cores core call.who partition call.request) call.claim hold.1.1.1.1.1.1 done;
  anew = demanded_restart configuration cores core number partition call (conditions_of configuration (time_of cores core) call.who partition call.request) hold.1.1.1.1.1.1;
}

-- and the value is the service's
own_value : (configuration : Configuration) (number core : ℕ) (cores : List CoreState) (partition : Partition) (call : CallRecord)
    → AllHold (own_call_demands configuration number cores partition core call) → is_done call.claim.out ≡ true → channel_of partition call.request ≡ None
    → HasValue (answer_of configuration cores core call.who partition call.request).val call.claim.val
own_value configuration number core cores partition call hold done off =
    let conditions = conditions_of configuration (time_of cores core) call.who partition call.request in
    let answer = answer_of configuration cores core call.who partition call.request in
    demands_value conditions (channel_of partition call.request) number call.request answer call.claim
    (demands_none conditions (channel_of partition call.request) number call.request answer call.claim hold.1.1.1.1.1.1 done)
    off hold.1.1.1.1.1.1

-- the demands of a call of one of these processes
pub own_holds : (configuration : Configuration) (number core : ℕ) (cores : List CoreState) (partition : Partition) (call : CallRecord) → nat_eq call.who.part number ≡ true
    → AllHold (partition_demands configuration number cores partition core (Call call)) → AllHold (own_call_demands configuration number cores partition core call)
own_holds configuration number core cores partition call own hold = subst (λ one. AllHold (call_demands one configuration number cores partition core call)) own hold

-- a record's own calls are of ready callers
calls_ready : (configuration : Configuration) (number core : ℕ) (cores : List CoreState) (partition : Partition) (body : Body) → are_distinct partition.table ≡ true
    → AllHold (partition_demands configuration number cores partition core body) → CallsReady configuration core number body partition
calls_ready configuration number core cores partition (Call call) distinct hold =
    λ own. own_ready configuration number core cores partition call distinct (own_holds configuration number core cores partition call own hold)
calls_ready configuration number core cores partition (Error report) distinct hold =
    λ own. told_restarts configuration partition report (subst (λ one. restarts_by_error configuration one partition report.who.proc ≡ report.restarts) (sym (eqb-true report.who.part number own)) hold.1.1.0)
calls_ready configuration number core cores partition _ distinct hold = tt

-- calls of other partitions, by their demands

-- each process of this partition that is named waits in the set
pub named_wait : (wanted : WaitingSet) (number : ℕ) (table : Table) (others : List Who) → AllWaitAt wanted number table others → (who : Who) → who.part ≡ number → is_named who others ≡ true
    → waits_at wanted (item_at table who.proc) ≡ true
named_wait wanted number table [] all who here named = absurd (true≢false (sym named))
named_wait wanted number table (other ∷ others) all who here named =
    either_way (is_same who other)
    (λ same. (let is : who ≡ other = same_is who other same in
    subst (λ one. waits_at wanted (item_at table one.proc) ≡ true) (sym is) (all.0 (ap (λ one. one.part) (sym is) ∙ here))))
    (λ differs. named_wait wanted number table others all.1 who here (other_holds _ _ named differs))

-- so a process that such a call names here waits in a channel's set
pub named_across : (asked : Request) (chan : Option ℕ) (number : ℕ) (table : Table) (others : List Who) → WakesHere asked chan number table others → (who : Who) → who.part ≡ number
    → is_named who others ≡ true → (wanted : WaitingSet) × (is_of_channel wanted ≡ true) × (waits_at wanted (item_at table who.proc) ≡ true)
named_across (Request.QueuingPort port (QueuingOperation.Send length time_out message)) (Some channel) number table others wakes who here named =
    (channel_set channel Receivers, refl, named_wait (channel_set channel Receivers) number table others wakes who here named)
named_across (Request.QueuingPort port (QueuingOperation.Receive time_out)) (Some channel) number table others wakes who here named =
    (channel_set channel Senders, refl, named_wait (channel_set channel Senders) number table others wakes who here named)
named_across (Request.QueuingPort port QueuingOperation.Clear) (Some channel) number table others wakes who here named =
    (channel_set channel Senders, refl, named_wait (channel_set channel Senders) number table others wakes who here named)
named_across _ chan number table others wakes who here named = absurd wakes

-- so a call of another partition ends none of their waits, if they wait at no channel
foreign_goes_on : (configuration : Configuration) (number core : ℕ) (cores : List CoreState) (partition : Partition) (call : CallRecord) → nat_eq call.who.part number ≡ false
    → AllHold (partition_demands configuration number cores partition core (Call call)) → (who : Who) → who.part ≡ number
    → ((other : WaitingSet) → is_of_channel other ≡ true → waits_at other (item_at partition.table who.proc) ≡ true → ⊥) → ends_wait call who ≡ false
foreign_goes_on configuration number core cores partition call elsewhere hold who here apart =
    let foreign = subst (λ one. AllHold (call_demands one configuration number cores partition core call)) elsewhere hold in
    let there : nat_eq call.who.part who.part ≡ false = ap (nat_eq call.who.part) here ∙ elsewhere in
    goes_on call who (restarts_other call who.part (differs_back call.who.part who.part there))
    (cannot_hold (is_named who call.claim.woken) (λ named.
    (let across = named_across call.request call.claim.chan number partition.table call.claim.woken foreign.1.1.0 who here named in apart across.0 across.1 across.2)))
    (not_stopped call who there)

foreign_stays : (configuration : Configuration) (number core : ℕ) (cores : List CoreState) (partition : Partition) (call : CallRecord) → nat_eq call.who.part number ≡ false
    → AllHold (partition_demands configuration number cores partition core (Call call)) → (wanted : WaitingSet) → is_of_channel wanted ≡ false
    → (who : Who) → who.part ≡ number → waits_at wanted (item_at partition.table who.proc) ≡ true → ends_wait call who ≡ false
foreign_stays configuration number core cores partition call elsewhere hold wanted off who here waits =
    foreign_goes_on configuration number core cores partition call elsewhere hold who here
    (λ other of_channel also. true≢false (sym of_channel ∙ off_channel wanted other (item_at partition.table who.proc) off waits also))

-- numbers

-- a partition with other processes, another mode, another lock, or another error handler with its errors
pub with_table : (partition : Partition) (mode : Mode) (handler : Option ErrorHandler) (errors : List ListedError) (lock : Lock) (table : Table) → HasDistinctObjects partition
    → HasDistinctObjects (record partition { mode = mode; handler = handler; errors = errors; lock = lock; table = table })
with_table partition mode handler errors lock table has kind.Buffer = has kind.Buffer
with_table partition mode handler errors lock table has other = has other

-- what is created has a new number
new_distinct : {Object : Type 0} (objects : List (ℕ × Object)) (claimed : Option ℤ) (made : Option Object) → are_distinct objects ≡ true → is_new (is_free objects) claimed ≡ true
    → are_distinct (objects ++ numbered_if claimed made) ≡ true
new_distinct objects claimed None distinct fresh = ap are_distinct (append-nil objects) ∙ distinct
new_distinct objects claimed (Some new) distinct fresh = distinct_new objects claimed new distinct fresh

-- so it is with the objects of all kinds, and what is used keeps its number
used_distinct : (configuration : Configuration) (cores : List CoreState) (core : ℕ) (who : Who) (claimed : Option ℤ) (asked : Request) (partition : Partition) → HasDistinctObjects partition
    → (channel_of partition asked ≡ None → HasValue (answer_of configuration cores core who partition asked).val claimed) → HasDistinctObjects (objects_by configuration who claimed asked partition)
used_distinct configuration cores core who claimed (Request.Create name object) partition has value other =
    put_holds (kind_of object) _ partition other (λ kind objects. are_distinct objects ≡ true)
    (λ same. new_distinct (objects_of partition (kind_of object)) claimed (new_object configuration who.part name object) (has (kind_of object)) (value refl)) (λ differs. has other)
used_distinct configuration cores core who claimed (Request.Object number operation) partition has value other =
    put_holds (kind_used operation) _ partition other (λ kind objects. are_distinct objects ≡ true)
    (λ same. distinct_each _ (objects_of partition (kind_used operation)) ∙ has (kind_used operation)) (λ differs. has other)
used_distinct configuration cores core who claimed (Request.SamplingPort port SamplingOperation.Read) partition has value other =
    put_holds kind.SamplingPort _ partition other (λ kind objects. are_distinct objects ≡ true)
    (λ same. distinct_each _ partition.sampling_ports ∙ has kind.SamplingPort) (λ differs. has other)
used_distinct configuration cores core who claimed _ partition has value other = has other

-- a change of each set leaves the numbers
pub sets_distinct : (change : WaitingSet → List Entry → List Entry) (partition : Partition) → HasDistinctObjects partition → HasDistinctObjects (each_set change partition)
sets_distinct change partition has kind.SamplingPort = has kind.SamplingPort
sets_distinct change partition has kind.QueuingPort = has kind.QueuingPort
sets_distinct change partition has other = distinct_each _ (objects_of partition other) ∙ has other

-- the objects of a partition as it starts: none
start_has_distinct : (start : StartCondition) (entered : Mode) (configuration : Configuration) (number place : ℕ) → HasDistinctObjects (started_partition start entered configuration number place)
start_has_distinct start entered configuration number place kind.Buffer = refl
start_has_distinct start entered configuration number place _ = refl

-- the objects of a partition after a record
objects_distinct : (configuration : Configuration) (cores : List CoreState) (place core number : ℕ) (body : Body) (partition : Partition)
    → CallsClaimValues configuration number cores core body partition → HasDistinctObjects partition → HasDistinctObjects (partition_by configuration cores place core number body partition)
objects_distinct configuration cores place core number (Disp who) partition claims has = has
objects_distinct configuration cores place core number (Tick woken) partition claims has =
    with_table (each_set (set_after place (Tick woken)) partition) partition.mode partition.handler partition.errors (lock_left place (Tick woken) partition.lock) (each_item (ticked place number woken) partition.table) (sets_distinct (set_after place (Tick woken)) partition has)
objects_distinct configuration cores place core number (Ret ret) partition claims has =
    return_case HasDistinctObjects configuration cores place core number ret partition (with_table partition partition.mode partition.handler partition.errors partition.lock (each_item (returned ret.who.proc) partition.table) has) has
objects_distinct configuration cores place core number (Error report) partition claims has =
    error_case HasDistinctObjects configuration cores place core number report partition
    (λ own none. with_table partition partition.mode partition.handler (errors_after partition report) partition.lock (each_item (reported place partition report) partition.table) has)
    (λ own restart is. start_has_distinct restart.start restart.mode configuration report.who.part place) (λ elsewhere. has)
objects_distinct configuration cores place core number (Call call) partition claims has =
    let after : Partition = partition_called configuration cores place core call partition in
    call_case HasDistinctObjects configuration cores place core number call partition
    (λ own none. with_table (objects_called configuration place call partition) after.mode after.handler after.errors after.lock after.table (sets_distinct (set_after place (Call call))
    (cond (is_done call.claim.out) (objects_by configuration call.who call.claim.val call.request partition) partition)
    (done_case HasDistinctObjects configuration call partition (λ done. used_distinct configuration cores core call.who call.claim.val call.request partition has (claims own done)) has)))
    (λ own restart is. start_has_distinct restart.start restart.mode configuration call.who.part place)
    (λ elsewhere. with_table partition partition.mode partition.handler partition.errors partition.lock (woken_table place number (message_of call.request) call.claim.woken partition.table) has)
objects_distinct configuration cores place core number (Arrive crossing) partition claims has =
    with_table partition partition.mode partition.handler partition.errors partition.lock (woken_table place number crossing.message crossing.woken partition.table) has
objects_distinct configuration cores place core number (Depart crossing) partition claims has =
    with_table partition partition.mode partition.handler partition.errors partition.lock (woken_table place number [] crossing.woken partition.table) has

-- the sets

-- which processes have an entry in a set of a partition
abbrev pub WaitsInSet : ℕ → WaitingSet → Partition → Entry → Type 0
WaitsInSet number wanted partition entry = (entry.who.part ≡ number) × IsTrue (waits_at wanted (item_at partition.table entry.who.proc))

-- an entry whose wait goes on
stays_waiting : (configuration : Configuration) (cores : List CoreState) (place core number : ℕ) (body : Body) (partition : Partition) (wanted : WaitingSet) → CallsReady configuration core number body partition
    → (entry : Entry) → leaves body entry.who ≡ false → WaitsInSet number wanted partition entry
    → WaitsInSet number wanted (partition_by configuration cores place core number body partition) entry
stays_waiting configuration cores place core number body partition wanted ready entry stays is = (
  is.0,
  subst (λ part. waits_at wanted (item_at (partition_by configuration cores place core part body partition).table entry.who.proc) ≡ true) is.0
      (keeps_waiting configuration cores place core body partition entry.who wanted (subst (λ part. CallsReady configuration core part body partition) (sym is.0) ready) stays is.1),
)

-- a caller that enters
enters_waiting : (configuration : Configuration) (cores : List CoreState) (place core number : ℕ) (body : Body) (partition : Partition) (wanted : WaitingSet) → CallsReady configuration core number body partition
    → (IsElsewhere number body → ⊥) → EntersWith place body wanted (WaitsInSet number wanted (partition_by configuration cores place core number body partition))
enters_waiting configuration cores place core number (Call call) partition wanted ready own =
    let here = holds_if (nat_eq call.who.part number) own in
    let same : call.who.part ≡ number = eqb-true call.who.part number here in
    λ enters. (
      same,
      subst (λ part. waits_at wanted (item_at (partition_by configuration cores place core part (Call call) partition).table call.who.proc) ≡ true) same
          (entered_waits configuration cores place core call partition (ready here) wanted enters),
    )
enters_waiting configuration cores place core number _ partition wanted ready own = tt

-- an entry at a record that ends waits in a channel's set alone
crossed_waiting : (configuration : Configuration) (cores : List CoreState) (place core number : ℕ) (body : Body) (partition : Partition) (wanted : WaitingSet)
    → CallsReady configuration core number body partition → (channel : WaitingSet) → is_of_channel channel ≡ true
    → ((who : Who) → who.part ≡ number → leaves body who ≡ true → waits_at channel (item_at partition.table who.proc) ≡ true)
    → AllEntries (WaitsInSet number wanted partition) (entries_at partition wanted)
    → AllEntries (WaitsInSet number wanted (partition_by configuration cores place core number body partition)) (entries_at partition wanted)
crossed_waiting configuration cores place core number body partition wanted ready channel is_channels waits all =
    let Then : Entry → Type 0 = WaitsInSet number wanted (partition_by configuration cores place core number body partition) in
    of_objects Then partition wanted (λ off. all_weaker (WaitsInSet number wanted partition) Then
    (λ entry is. stays_waiting configuration cores place core number body partition wanted ready entry
    (cannot_hold (leaves body entry.who) (λ named.
    true≢false (sym is_channels ∙ off_channel wanted channel (item_at partition.table entry.who.proc) off is.1 (waits entry.who is.0 named)))) is) (entries_at partition wanted) all)

-- an entry at a call of another partition, at an arrival or at a departure
foreign_waiting : (configuration : Configuration) (cores : List CoreState) (place core number : ℕ) (body : Body) (partition : Partition) (wanted : WaitingSet)
    → CallsReady configuration core number body partition → AllHold (partition_demands configuration number cores partition core body) → LeavesSets configuration number body
    → AllEntries (WaitsInSet number wanted partition) (entries_at partition wanted)
    → AllEntries (WaitsInSet number wanted (partition_by configuration cores place core number body partition)) (entries_at partition wanted)
foreign_waiting configuration cores place core number (Call call) partition wanted ready hold elsewhere all =
    let Then : Entry → Type 0 = WaitsInSet number wanted (partition_by configuration cores place core number (Call call) partition) in
    of_objects Then partition wanted (λ off. all_weaker (WaitsInSet number wanted partition) Then
    (λ entry is. stays_waiting configuration cores place core number (Call call) partition wanted ready entry
    (foreign_stays configuration number core cores partition call elsewhere hold wanted off entry.who is.0 is.1) is) (entries_at partition wanted) all)
foreign_waiting configuration cores place core number (Arrive crossing) partition wanted ready hold elsewhere all =
    crossed_waiting configuration cores place core number (Arrive crossing) partition wanted ready (channel_set crossing.chan Receivers) refl
    (λ who here named. named_wait (channel_set crossing.chan Receivers) number partition.table crossing.woken hold.0 who here named) all
foreign_waiting configuration cores place core number (Depart crossing) partition wanted ready hold elsewhere all =
    crossed_waiting configuration cores place core number (Depart crossing) partition wanted ready (channel_set crossing.chan Senders) refl
    (λ who here named. named_wait (channel_set crossing.chan Senders) number partition.table crossing.woken hold.0 who here named) all
foreign_waiting configuration cores place core number (Error report) partition wanted ready hold elsewhere all =
    all_weaker (WaitsInSet number wanted partition) (WaitsInSet number wanted (partition_by configuration cores place core number (Error report) partition))
    (λ entry is. stays_waiting configuration cores place core number (Error report) partition wanted ready entry (error_ends_none configuration core number report partition entry.who ready elsewhere is.0) is) (entries_at partition wanted) all
foreign_waiting configuration cores place core number _ partition wanted ready hold elsewhere all = absurd elsewhere

-- a process that is ready has an entry in no set
pub member_nowhere : (number place core : ℕ) (partition : Partition) (who : Who) → IsSoundPart number place partition → FoundReady core (item_at partition.table who.proc)
    → (wanted : WaitingSet) → has_entry_in who (entries_at partition wanted) ≡ false
member_nowhere number place core partition who sound ready wanted =
    member_not (λ one. (one.part ≡ number) × IsTrue (waits_at wanted (item_at partition.table one.proc))) who
    (λ is. ready_waits_not core (item_at partition.table who.proc) wanted ready is.1) (entries_at partition wanted) (sound.is_member wanted)

own_caller_new : (configuration : Configuration) (number place core : ℕ) (body : Body) (partition : Partition) → IsSoundPart number place partition → CallsReady configuration core number body partition
    → (wanted : WaitingSet) → (IsElsewhere number body → ⊥) → EntersNew body (entries_at partition wanted)
own_caller_new configuration number place core (Call call) partition sound ready wanted own =
    member_nowhere number place core partition call.who sound (ready (holds_if (nat_eq call.who.part number) own)).ready wanted
own_caller_new configuration number place core _ partition sound ready wanted own = tt

-- one place later
next_place : (place : ℕ) → suc place ≡ place + 1
next_place place = omega arith

-- the lock

-- which processes have an entry in the set of a partition's lock
abbrev pub WaitsForLock : ℕ → Partition → Entry → Type 0
WaitsForLock number partition entry = (entry.who.part ≡ number) × IsTrue (waits_for_lock (item_at partition.table entry.who.proc))

-- an entry whose wait goes on
stays_for_lock : (configuration : Configuration) (cores : List CoreState) (place core number : ℕ) (body : Body) (partition : Partition) → CallsReady configuration core number body partition
    → (entry : Entry) → leaves body entry.who ≡ false → WaitsForLock number partition entry
    → WaitsForLock number (partition_by configuration cores place core number body partition) entry
stays_for_lock configuration cores place core number body partition ready entry stays is = (
  is.0,
  subst (λ part. waits_for_lock (item_at (partition_by configuration cores place core part body partition).table entry.who.proc) ≡ true) is.0
      (keeps_waiting_for_lock configuration cores place core body partition entry.who (subst (λ part. CallsReady configuration core part body partition) (sym is.0) ready) stays is.1),
)

-- a caller that enters
enters_for_lock : (configuration : Configuration) (cores : List CoreState) (place core number : ℕ) (body : Body) (partition : Partition) → CallsReady configuration core number body partition
    → (IsElsewhere number body → ⊥) → EntersLockWith place body (WaitsForLock number (partition_by configuration cores place core number body partition))
enters_for_lock configuration cores place core number (Call call) partition ready own =
    let here = holds_if (nat_eq call.who.part number) own in
    let same : call.who.part ≡ number = eqb-true call.who.part number here in
    λ enters. (
      same,
      subst (λ part. waits_for_lock (item_at (partition_by configuration cores place core part (Call call) partition).table call.who.proc) ≡ true) same
          (entered_waits_for_lock configuration cores place core call partition (ready here) enters),
    )
enters_for_lock configuration cores place core number _ partition ready own = tt

-- an entry at a call of another partition, at an arrival or at a departure
foreign_for_lock : (configuration : Configuration) (number core : ℕ) (cores : List CoreState) (body : Body) (partition : Partition)
    → CallsReady configuration core number body partition → AllHold (partition_demands configuration number cores partition core body) → LeavesSets configuration number body
    → (entry : Entry) → WaitsForLock number partition entry → leaves body entry.who ≡ false
foreign_for_lock configuration number core cores (Call call) partition ready hold elsewhere entry is =
    foreign_goes_on configuration number core cores partition call elsewhere hold entry.who is.0
    (λ other of_channel also. lock_waits_not other (item_at partition.table entry.who.proc) is.1 also)
foreign_for_lock configuration number core cores (Arrive crossing) partition ready hold elsewhere entry is =
    cannot_hold (is_named entry.who crossing.woken) (λ named. lock_waits_not (channel_set crossing.chan Receivers) (item_at partition.table entry.who.proc) is.1
    (named_wait (channel_set crossing.chan Receivers) number partition.table crossing.woken hold.0 entry.who is.0 named))
foreign_for_lock configuration number core cores (Depart crossing) partition ready hold elsewhere entry is =
    cannot_hold (is_named entry.who crossing.woken) (λ named. lock_waits_not (channel_set crossing.chan Senders) (item_at partition.table entry.who.proc) is.1
    (named_wait (channel_set crossing.chan Senders) number partition.table crossing.woken hold.0 entry.who is.0 named))
foreign_for_lock configuration number core cores (Error report) partition ready hold elsewhere entry is =
    error_ends_none configuration core number report partition entry.who ready elsewhere is.0
foreign_for_lock configuration number core cores _ partition ready hold elsewhere entry is = absurd elsewhere

-- a process that is ready has no entry in it
pub not_in_lock : (number place core : ℕ) (partition : Partition) (who : Who) → IsSoundPart number place partition → FoundReady core (item_at partition.table who.proc)
    → has_entry_in who partition.lock.waiters ≡ false
not_in_lock number place core partition who sound ready =
    member_not (λ one. (one.part ≡ number) × IsTrue (waits_for_lock (item_at partition.table one.proc))) who
    (λ is. ready_waits_not_for_lock core (item_at partition.table who.proc) ready is.1) partition.lock.waiters sound.lock.is_member

caller_not_in_lock : (configuration : Configuration) (number place core : ℕ) (body : Body) (partition : Partition) → IsSoundPart number place partition → CallsReady configuration core number body partition
    → (IsElsewhere number body → ⊥) → EntersNew body partition.lock.waiters
caller_not_in_lock configuration number place core (Call call) partition sound ready own =
    not_in_lock number place core partition call.who sound (ready (holds_if (nat_eq call.who.part number) own)).ready
caller_not_in_lock configuration number place core _ partition sound ready own = tt

-- the lock after a record
sound_lock_after : (configuration : Configuration) (number : ℕ) (cores : List CoreState) (partition : Partition) (place core : ℕ) (body : Body)
    → IsSoundPart number place partition → CallsReady configuration core number body partition → AllHold (partition_demands configuration number cores partition core body)
    → IsSoundLock number (place + 1) (partition_by configuration cores place core number body partition)
sound_lock_after configuration number cores partition place core body sound ready hold =
    let next = partition_by configuration cores place core number body partition in record {
      is_member = lock_set_after (AllEntries (WaitsForLock number partition)) (AllEntries (WaitsForLock number next)) configuration cores place core number body partition tt
          (λ own all. each_lock_entry (WaitsForLock number partition) (WaitsForLock number next) place number body own
          (stays_for_lock configuration cores place core number body partition ready)
          (enters_for_lock configuration cores place core number body partition ready own) partition.lock.waiters all)
          (λ elsewhere all. all_weaker (WaitsForLock number partition) (WaitsForLock number next)
          (λ entry is. stays_for_lock configuration cores place core number body partition ready entry (foreign_for_lock configuration number core cores body partition ready hold elsewhere entry is) is)
          partition.lock.waiters all) sound.lock.is_member;
      order = subst (λ count. IsInOrder count next.lock.waiters) (next_place place)
          (lock_stays_in_order configuration cores place place core number body partition refl
          (caller_not_in_lock configuration number place core body partition sound ready) sound.lock.order);
      waiters = λ process waits. lock_has_entry configuration cores place core body partition (record { part = number; proc = process }) ready sound.dormant
          (λ before. sound.lock.waiters process before) waits;
    }

-- the whole partition

-- a record's own calls claim their values
calls_claim : (configuration : Configuration) (number core : ℕ) (cores : List CoreState) (partition : Partition) (body : Body)
    → AllHold (partition_demands configuration number cores partition core body) → CallsClaimValues configuration number cores core body partition
calls_claim configuration number core cores partition (Call call) hold =
    λ own done off. own_value configuration number core cores partition call (own_holds configuration number core cores partition call own hold) done off
calls_claim configuration number core cores partition _ hold = tt

sound_after : (configuration : Configuration) (number : ℕ) (cores : List CoreState) (partition : Partition) (place core : ℕ) (body : Body)
    → IsSoundPart number place partition → AllHold (partition_demands configuration number cores partition core body)
    → IsSoundPart number (place + 1) (partition_by configuration cores place core number body partition)
sound_after configuration number cores partition place core body sound hold =
    let ready = calls_ready configuration number core cores partition body sound.distinct hold in
    let claims = calls_claim configuration number core cores partition body hold in
    let next = partition_by configuration cores place core number body partition in record {
      distinct = distinct_by configuration cores place core number body partition claims sound.distinct;
      objects = objects_distinct configuration cores place core number body partition claims sound.objects;
      is_member = λ wanted. one_set_after (AllEntries (WaitsInSet number wanted partition)) (AllEntries (WaitsInSet number wanted next)) configuration cores place core number body partition wanted tt
          (λ own entries all. each_entry (WaitsInSet number wanted partition) (WaitsInSet number wanted next) place body wanted
          (stays_waiting configuration cores place core number body partition wanted ready)
          (enters_waiting configuration cores place core number body partition wanted ready own) entries all)
          (λ elsewhere all. foreign_waiting configuration cores place core number body partition wanted ready hold elsewhere all) (sound.is_member wanted);
      order = λ wanted. subst (λ count. IsInOrder count (entries_at next wanted)) (next_place place)
          (set_stays_in_order configuration cores place place core number body partition wanted refl
          (own_caller_new configuration number place core body partition sound ready wanted) (sound.order wanted));
      waiters = λ wanted process off waits. object_has_entry configuration cores place core body partition (record { part = number; proc = process }) wanted ready sound.dormant off
          (λ before. sound.waiters wanted process off before) waits;
      dormant = dormant_by configuration cores place core number body partition ready sound.dormant;
      lock = sound_lock_after configuration number cores partition place core body sound ready hold;
    }

-- the places of a set are below every later place too
order_before : (place later : ℕ) (entries : List Entry) → place ≤ later → IsInOrder place entries → IsInOrder later entries
order_before place later entries most order = record {
  pairs = order.pairs;
  below = all_weaker (λ entry. entry.place < place) (λ entry. entry.place < later) (λ entry below. omega (arith, below, most)) entries order.below;
}

sound_later : (number place later : ℕ) (partition : Partition) → place ≤ later → IsSoundPart number place partition → IsSoundPart number later partition
sound_later number place later partition most sound = record {
  distinct = sound.distinct;
  objects = sound.objects;
  is_member = sound.is_member;
  order = λ wanted. order_before place later (entries_at partition wanted) most (sound.order wanted);
  waiters = sound.waiters;
  dormant = sound.dormant;
  lock = record {
    is_member = sound.lock.is_member;
    order = order_before place later partition.lock.waiters most sound.lock.order;
    waiters = sound.lock.waiters;
  };
}

cold_sound : (configuration : Configuration) (number place : ℕ) → IsSoundPart number place (cold_partition configuration number)
cold_sound configuration number place =
    let empty : (wanted : WaitingSet) → entries_at (cold_partition configuration number) wanted ≡ [] = start_set StartCondition.NormalStart Mode.ColdStart configuration number 0 in record {
      distinct = refl;
      objects = start_has_distinct StartCondition.NormalStart Mode.ColdStart configuration number 0;
      is_member = λ wanted. subst (AllEntries (WaitsInSet number wanted (cold_partition configuration number))) (sym (empty wanted)) tt;
      order = λ wanted. subst (IsInOrder place) (sym (empty wanted)) (none_in_order place);
      waiters = λ wanted process off waits. absurd (start_waits_not Mode.ColdStart (first_core configuration number) 0 process wanted waits);
      dormant = start_dormant Mode.ColdStart (first_core configuration number) 0;
      lock = record {
        is_member = tt;
        order = none_in_order place;
        waiters = λ process waits. absurd (start_awaits_not Mode.ColdStart (first_core configuration number) 0 process Awaited.TheLock
            (lock_awaits (item_at (first_processes Mode.ColdStart (first_core configuration number) 0) process) ∙ waits));
      };
    }

pub part_stays_sound : PartStaysSound
part_stays_sound = (
  cold_sound,
  λ configuration number cores partition ordered sound hold. sound_after configuration number cores partition ordered.pos ordered.core ordered.rec.body sound hold,
  sound_later,
)

-- who runs

pub running_is_in_no_set : RunningIsInNoSet
running_is_in_no_set number place core cores partition who sound running =
    let ready = choice_exists number core partition who sound.distinct running.1 in (
      λ wanted. (member_nowhere number place core partition who sound ready wanted, (sound.order wanted).below),
      (not_in_lock number place core partition who sound ready, sound.lock.order.below),
    )
