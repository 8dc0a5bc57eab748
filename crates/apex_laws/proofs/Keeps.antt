-- What a record leaves in a partition: waits that go on, waiting sets, and distinct numbers.
use Rattle.std.proofs.Common.{◌≡◌, ℕ, zero, suc, List, [], ◌∷◌, ◌++◌, Bool, true, false, cond, nat_eq, ℤ, pos, negsuc, Option, Some, None, option_map, refl, sym, ap, subst, ◌∙◌, true≢false, ◌≤◌, nat_le, nat_lt, is_some, is_none, ◌&&◌, ◌⊎◌, inl, inr}
use Rattle.std.proofs.lemmas.Bool.{and_from, and_parts, eq-eqb, eqb-true, leb-true, ltb-true}
use Rattle.std.proofs.lemmas.List.{append-nil}
use Rattle.apex_types.specs.declared.object_kind.ObjectKind.TheVariants as kind
use Rattle.apex_types.specs.declared.operation.ObjectOperation.TheVariants as on
use Rattle.apex_laws.proofs.Common.{AllEntries, Answer, AreTied, Body, Call, CallerOperation, CallRecord, Claim, Condition, Configuration, CoreState, Disp, Entry, GREATEST_NUMBER, HasOutcome, HasValue, IsAnswered, IsLawfulBody, IsLawfulCall}
use Rattle.apex_laws.proofs.Common.{Mutex, ObjectKind, Out, Partition, Process, ProcessOperation, Request, Ret, State, Table, Tick, WaitingSet, Who, adjusted, answer_of, are_distinct, by_mutex, called, caller_after, channel_of}
use Rattle.apex_laws.proofs.Common.{conditions_of, created, created_by, due_of_call, each_item, each_set, ends_wait, enters, entries_at, entries_at_end, entries_in, entry_of, entry_wait, first_core, given_object, is_done, is_free, is_in}
use Rattle.apex_laws.proofs.Common.{is_named, is_new, is_number, is_owner, is_the_set, is_waiting, item_at, new_process, numbered, objects_by, objects_called, objects_of, on_ownership, partition_by, partition_called, period_of, returned}
use Rattle.apex_laws.proofs.Common.{set_after, set_by, set_in, set_of, start_conditions, started, ticked, time_of, time_out_of, wait_in, wait_of, waits_at, waits_for_normal, window_now, without, woken_if_named}
use Rattle.apex_laws.proofs.Common.{Arrive, Depart, Lock, StartCondition, delay_kept, Effect, LockOperation, enters_lock, first_for_lock, given_up, is_for_lock, is_of_lock, lock_by, lock_called, lock_effect, lock_left, lock_stopped, lock_waiters_after, locked_again, locked_from, natural_of, not_locked, passed_on, passed_to, unlocked_once, message_of, waits_for_lock, Error, ErrorReport, entry_deadline, reported}
use Rattle.apex_laws.proofs.Common.{ErrorHandler, ListedError, Restart, errors_after, handles_more, is_restart, restart_of, restart_reported}
use Rattle.apex_laws.proofs.Awaited.{Awaited, awaits, begins, goes_in, is_for, lock_awaits, not_for_normal, ready_awaits_not, set_awaits}
use Rattle.apex_laws.proofs.Booleans.{by_test, cannot_hold, differs_back, either_way, impossible, is_itself, never_found, not_first, not_second}
use Rattle.apex_laws.proofs.Choices.{chosen_exists, FoundReady}
use Rattle.apex_laws.proofs.Codes.{done_is_lawful}
use Rattle.apex_laws.proofs.Ends.{first_empty, no_condition}
use Rattle.apex_laws.proofs.Errors.{error_set_case, lawful_restart, reported_case, told_restarts}
use Rattle.apex_laws.proofs.Objects.{each_set_has, objects_have}
use Rattle.apex_laws.proofs.Restarts.{call_case, done_case, not_named, not_restarted, not_stopped, return_case, start_distinct, start_set, waiting_goes_on, woken_table, error_case, no_restart, told_anew}
use Rattle.apex_laws.proofs.Tables.{at_each, distinct_each, distinct_push, some_at_each, turns_each}
use Rattle.apex_laws.proofs.Waiters.{all_push, all_weaker, all_without}
use Rattle.apex_laws.proofs.WaitersOf.{same_who}
use Rattle.apex_laws.proofs.Wakes.{found}

-- A process that a record does not wake or stop keeps its wait, if the record's own calls are of ready callers.

-- a process that waits

-- a process that waits in a set exists and is alive
pub record FoundWaiting (wanted : Awaited) (found : Option Process) : Type 0 where
  pub process : Process
  pub is_member : found ≡ Some process
  pub alive : process.alive ≡ true
  pub waits : is_for wanted process.wait ≡ true

pub waits_exists : (wanted : Awaited) (found : Option Process) → awaits wanted found ≡ true → FoundWaiting wanted found
waits_exists wanted None waits = impossible waits
waits_exists wanted (Some process) waits =
    let parts = and_parts process.alive (is_for wanted process.wait) waits in
    record { process = process; is_member = refl; alive = parts.0; waits = parts.1 }

-- a process that is found goes on waiting if it stays alive and keeps its wait
goes_on : (wanted : Awaited) (found : Option Process) (new : Process) → found ≡ Some new → new.alive ≡ true → is_for wanted new.wait ≡ true → awaits wanted found ≡ true
goes_on wanted found new is alive waits = subst (λ one. awaits wanted one ≡ true) (sym is) (and_from _ _ alive waits)

-- what a call sets in a process leaves it alive, and leaves its wait

-- no start is asked for this process
abbrev pub IsNotStarted : Request → ℕ → Type 0
IsNotStarted (Request.Process process ProcessOperation.Start) number = is_number process number ≡ false
IsNotStarted (Request.Process process (ProcessOperation.DelayedStart delay)) number = is_number process number ≡ false
IsNotStarted _ number = Unit {0}

-- a fact about a process with the priority of a mutex, given or taken back: it holds whatever priorities the process has
pub mutex_case : (Fact : Process → Type 0) (found : Option Mutex) (change : Mutex → Mutex) (number : ℕ) (x : Process)
    → ((current retained : ℕ) → Fact (record x { current_priority = current; retained_priority = retained })) → Fact (by_mutex found change number x)
mutex_case Fact None change number x any = any x.current_priority x.retained_priority
mutex_case Fact (Some mutex) change number x any = by (is_owner mutex.owner number) (is_owner (change mutex).owner number)
  where
    by : (before after : Bool) → Fact (on_ownership before after mutex.priority x)
    by false true = any _ _
    by true false = any _ _
    by true true = any _ _
    by false false = any _ _

-- a fact about a process in which a call sets something: it holds whatever plain fields are set, of one that is started, of one that enters
-- NORMAL, and of a handler that starts
pub set_case : (Fact : Process → Type 0) (place period : ℕ) (cores : List CoreState) (partition : Partition) (caller : ℕ) (asked : Request) (number : ℕ) (x : Process)
    → ((affinity current retained position : ℕ) (faulted suspended : Bool)
    → Fact (record x { affinity = affinity; current_priority = current; retained_priority = retained; ready_position = position; faulted = faulted; suspended = suspended }))
    → ((now : ℕ) (delay : ℤ) → Fact (started place period now partition.mode delay x))
    → (waits_for_normal x.wait ≡ true → (now delay : ℕ)
    → Fact (record x { wait = entry_wait period now delay x.period; deadline = entry_deadline period now delay x; ready_position = place }))
    → ((handler : ErrorHandler) → x.alive ≡ false → Fact (record x { alive = true; affinity = handler.core; ready_position = place }))
    → Fact (set_by place period cores partition caller asked number x)
set_case Fact place period cores partition caller (Request.Process process operation) number x set starts enters handles =
    by_test Fact (is_number process number) (set_in place period (time_of cores x.affinity) partition.mode operation x) x (λ own. by operation) (λ other. set _ _ _ _ _ _)
  where
    by : (one : ProcessOperation) → Fact (set_in place period (time_of cores x.affinity) partition.mode one x)
    by ProcessOperation.Start = starts (time_of cores x.affinity) (pos 0)
    by (ProcessOperation.DelayedStart delay) = starts (time_of cores x.affinity) delay
    by _ = set _ _ _ _ _ _
set_case Fact place period cores partition caller (Request.SetPartitionMode next) number x set starts enters handles =
    by_test Fact (waits_for_normal x.wait)
    (record x {
      wait = entry_wait period (time_of cores x.affinity) (delay_kept x.wait) x.period;
      deadline = entry_deadline period (time_of cores x.affinity) (delay_kept x.wait) x;
      ready_position = place;
    }) x
    (λ waits. enters waits (time_of cores x.affinity) (delay_kept x.wait)) (λ stays. set _ _ _ _ _ _)
set_case Fact place period cores partition caller (Request.Object mutex (on.Mutex operation)) number x set starts enters handles =
    mutex_case Fact (given_object partition.mutexes mutex) _ number x (λ current retained. set _ current retained _ _ _)
set_case Fact place period cores partition caller (Request.Health operation) number x set starts enters handles =
    error_set_case Fact place partition caller (Request.Health operation) number x (set _ _ _ _ _ _) (set _ _ _ _ _ _) (set _ _ _ _ _ _) handles
set_case Fact place period cores partition caller (Request.Caller operation) number x set starts enters handles =
    error_set_case Fact place partition caller (Request.Caller operation) number x (set _ _ _ _ _ _) (set _ _ _ _ _ _) (set _ _ _ _ _ _) handles
set_case Fact place period cores partition caller _ number x set starts enters handles = set _ _ _ _ _ _

pub set_by_alive : (place period : ℕ) (cores : List CoreState) (partition : Partition) (caller : ℕ) (asked : Request) (number : ℕ) (x : Process) → x.alive ≡ true
    → (set_by place period cores partition caller asked number x).alive ≡ true
set_by_alive place period cores partition caller asked number x alive =
    set_case (λ y. y.alive ≡ true) place period cores partition caller asked number x (λ affinity current retained position faulted suspended. alive) (λ now delay. refl)
    (λ waits now delay. alive) (λ handler rests. refl)

pub set_by_wait : (place period : ℕ) (cores : List CoreState) (partition : Partition) (caller : ℕ) (asked : Request) (number : ℕ) (x : Process) → IsNotStarted asked number
    → waits_for_normal x.wait ≡ false → (set_by place period cores partition caller asked number x).wait ≡ x.wait
set_by_wait place period cores partition caller (Request.Process process ProcessOperation.Start) number x starts normal = rw starts refl
set_by_wait place period cores partition caller (Request.Process process (ProcessOperation.DelayedStart delay)) number x starts normal = rw starts refl
set_by_wait place period cores partition caller (Request.Process process ProcessOperation.Stop) number x starts normal = by_test (λ (y : Process). y.wait ≡ x.wait) (is_number process number) x x (λ own. refl) (λ other. refl)
set_by_wait place period cores partition caller (Request.Process process operation) number x starts normal =
    by_test (λ (y : Process). y.wait ≡ x.wait) (is_number process number) (set_in place period (time_of cores x.affinity) partition.mode operation x) x (λ own. refl) (λ other. refl)
set_by_wait place period cores partition caller (Request.SetPartitionMode next) number x starts normal = rw normal refl
set_by_wait place period cores partition caller (Request.Object mutex (on.Mutex operation)) number x starts normal =
    mutex_case (λ y. y.wait ≡ x.wait) (given_object partition.mutexes mutex) _ number x (λ current retained. refl)
set_by_wait place period cores partition caller (Request.Health operation) number x starts normal =
    error_set_case (λ y. y.wait ≡ x.wait) place partition caller (Request.Health operation) number x refl refl refl (λ handler rests. refl)
set_by_wait place period cores partition caller (Request.Caller operation) number x starts normal =
    error_set_case (λ y. y.wait ≡ x.wait) place partition caller (Request.Caller operation) number x refl refl refl (λ handler rests. refl)
set_by_wait place period cores partition caller _ number x starts normal = refl

-- a start starts no process that is alive

-- a number that isn't a process's
not_number : (table : Table) (process : ℤ) (number : ℕ) (x : Process) → item_at table number ≡ Some x → x.alive ≡ true → start_conditions (created table process) ≡ [] → is_number process number ≡ false
not_number table (negsuc n) number x at alive none = refl
not_number table (pos zero) number x at alive none = cc
not_number table (pos (suc n)) number x at alive none =
    cannot_hold (nat_eq (suc n) number) (λ same.
    (let conditions : start_conditions (Some x) ≡ [] = subst (λ one. start_conditions one ≡ []) (subst (λ one. item_at table one ≡ Some x) (sym (eqb-true (suc n) number same)) at) none in
    true≢false (sym alive ∙ no_condition x.alive Condition.AlreadyStarted conditions)))

not_started : (configuration : Configuration) (now : ℕ) (who : Who) (partition : Partition) (asked : Request) (number : ℕ) (x : Process) → item_at partition.table number ≡ Some x → x.alive ≡ true
    → conditions_of configuration now who partition asked ≡ [] → IsNotStarted asked number
not_started configuration now who partition (Request.Process process ProcessOperation.Start) number x at alive none = not_number partition.table process number x at alive none
not_started configuration now who partition (Request.Process process (ProcessOperation.DelayedStart delay)) number x at alive none =
    not_number partition.table process number x at alive (first_empty _ _ (first_empty _ _ none))
not_started configuration now who partition _ number x at alive none = tt

-- after a call

-- a call of one of a partition's own processes: its caller is ready; if it is done, no error condition holds; if it is a restart, it has one
pub record IsReadyCall (configuration : Configuration) (partition : Partition) (core : ℕ) (call : CallRecord) : Type 0 where
  pub ready : FoundReady core (item_at partition.table call.who.proc)
  pub now : ℕ
  pub none : is_done call.claim.out ≡ true → conditions_of configuration now call.who partition call.request ≡ []
  pub anew : is_restart call ≡ true → (restart : Restart) × (restart_of configuration call ≡ Some restart)

-- a record is such a call, if it is a call of one of this partition's processes; and an error that restarts the partition has its restart
abbrev pub CallsReady : Configuration → ℕ → ℕ → Body → Partition → Type 0
CallsReady configuration core number (Call call) partition = nat_eq call.who.part number ≡ true → IsReadyCall configuration partition core call
CallsReady configuration core number (Error report) partition =
    nat_eq report.who.part number ≡ true → report.restarts ≡ true → (restart : Restart) × (restart_reported configuration report ≡ Some restart)
CallsReady configuration core number _ partition = Unit {0}

-- a lawful call is one
pub ready_call : (configuration : Configuration) (state : State) (core : ℕ) (call : CallRecord) → AreTied configuration state
    → IsLawfulCall configuration state core call → IsReadyCall configuration (state.partitions call.who.part) core call
ready_call configuration state core call tied law = record {
  ready = chosen_exists (window_now configuration state.cores core) state.partitions core call.who (tied.distinct call.who.part) law.choice;
  now = time_of state.cores core;
  none = done_is_lawful _ _ _ _ _ call.claim law.outcome;
  anew = lawful_restart configuration state.cores core (state.partitions call.who.part) call _ _ _ law.outcome;
}

pub calls_ready : (configuration : Configuration) (state : State) (core : ℕ) (body : Body) → AreTied configuration state
    → IsLawfulBody configuration state core body → (number : ℕ) → CallsReady configuration core number body (state.partitions number)
calls_ready configuration state core (Call call) tied law number =
    λ own. subst (λ part. IsReadyCall configuration (state.partitions part) core call) (eqb-true call.who.part number own) (ready_call configuration state core call tied law)
calls_ready configuration state core (Error report) tied law number = λ own. told_restarts configuration (state.partitions report.who.part) report law.restart
calls_ready configuration state core _ tied law number = tt

-- what such a call sets leaves a waiting process alive and waiting
adjusted_waits : (configuration : Configuration) (cores : List CoreState) (partition : Partition) (place period core : ℕ) (call : CallRecord) → IsReadyCall configuration partition core call
    → (number : ℕ) (x : Process) (wanted : Awaited) → item_at partition.table number ≡ Some x → x.alive ≡ true → is_for wanted x.wait ≡ true
    → ((adjusted place period cores partition call number x).alive ≡ true) × (is_for wanted (adjusted place period cores partition call number x).wait ≡ true)
adjusted_waits configuration cores partition place period core call ready number x wanted at alive waits =
    by_test (λ (y : Process). (y.alive ≡ true) × (is_for wanted y.wait ≡ true)) (is_done call.claim.out) (set_by place period cores partition call.who.proc call.request number x) x
    (λ done. (let starts = not_started configuration ready.now call.who partition call.request number x at alive (ready.none done) in (
      set_by_alive place period cores partition call.who.proc call.request number x alive,
      ap (is_for wanted) (set_by_wait place period cores partition call.who.proc call.request number x starts (not_for_normal wanted x.wait waits)) ∙ waits,
    ))) (λ not_done. (alive, waits))

-- a process that is found in a table is found in a longer table too
pub found_in_front : (table more : Table) (number : ℕ) (x : Process) → item_at table number ≡ Some x → item_at (table ++ more) number ≡ Some x
found_in_front [] more number x at = never_found at
found_in_front (entry ∷ entries) more number x at =
    either_way (nat_eq number entry.0) (λ same. rw same (rw same at at)) (λ other. rw other (found_in_front entries more number x (rw other at at)))

-- a process after its table was changed
pub found_changed : (change : ℕ → Process → Process) (table more : Table) (number : ℕ) (x : Process) → item_at table number ≡ Some x
    → item_at (each_item change table ++ more) number ≡ Some (change number x)
found_changed change table more number x at =
    found_in_front (each_item change table) more number (change number x) (at_each change table number ∙ ap (option_map (change number)) at)

-- whether a record ends the wait of a process
abbrev pub leaves : Body → Who → Bool
leaves (Disp who) one = false
leaves (Ret ret) one = false
leaves (Tick woken) one = is_named one woken
leaves (Arrive crossing) one = is_named one crossing.woken
leaves (Depart crossing) one = is_named one crossing.woken
leaves (Error report) one = report.restarts && nat_eq one.part report.who.part
leaves (Call call) one = ends_wait call one

-- a process of the caller's partition that the call doesn't wake or stop, and that isn't the caller
called_waits : (configuration : Configuration) (cores : List CoreState) (partition : Partition) (place now core : ℕ) (call : CallRecord) → IsReadyCall configuration partition core call
    → (number : ℕ) (x : Process) (wanted : Awaited) → item_at partition.table number ≡ Some x → x.alive ≡ true → is_for wanted x.wait ≡ true
    → nat_eq number call.who.proc ≡ false → ends_wait call (record { part = call.who.part; proc = number }) ≡ false
    → let new = called place now (period_of configuration call.who.part) cores partition call number x in
    (new.alive ≡ true) × (is_for wanted new.wait ≡ true)
called_waits configuration cores partition place now core call ready number x wanted at alive waits other stays =
    let named = not_named call (record { part = call.who.part; proc = number }) stays in
    let stopped = not_stopped call (record { part = call.who.part; proc = number }) stays in
    rw (other, stopped, named) (adjusted_waits configuration cores partition place (period_of configuration call.who.part) core call ready number x wanted at alive waits)

-- a process that a record of others doesn't name
woken_waits : (place : ℕ) (message : List ℕ) (woken : List Who) (table : Table) (who : Who) (wanted : Awaited) → is_named who woken ≡ false
    → awaits wanted (item_at table who.proc) ≡ true → awaits wanted (item_at (woken_table place who.part message woken table) who.proc) ≡ true
woken_waits place message woken table who wanted named waits =
    let old = waits_exists wanted (item_at table who.proc) waits in
    let change : ℕ → Process → Process = λ number process. woken_if_named place message woken (record { part = who.part; proc = number }) process in
    goes_on wanted (item_at (each_item change table) who.proc) (change who.proc old.process) (turns_each change table who.proc old.process old.is_member)
    (rw named old.alive) (rw named old.waits)

-- an error that restarts a partition ends the waits of its processes
pub told_ends : (configuration : Configuration) (report : ErrorReport) (who : Who) (restart : Restart) → restart_reported configuration report ≡ Some restart
    → nat_eq report.who.part who.part ≡ true → leaves (Error report) who ≡ false → ⊥
told_ends configuration report who restart is own stays =
    true≢false (sym (and_from _ _ (told_anew configuration report restart is) (eq-eqb who.part report.who.part (sym (eqb-true report.who.part who.part own)))) ∙ stays)

-- a process goes on waiting at a record that doesn't end its wait
pub keeps_awaiting : (configuration : Configuration) (cores : List CoreState) (place core : ℕ) (body : Body) (partition : Partition) (who : Who) (wanted : Awaited)
    → CallsReady configuration core who.part body partition → leaves body who ≡ false → awaits wanted (item_at partition.table who.proc) ≡ true
    → awaits wanted (item_at (partition_by configuration cores place core who.part body partition).table who.proc) ≡ true
keeps_awaiting configuration cores place core (Disp one) partition who wanted ready stays waits = waits
keeps_awaiting configuration cores place core (Tick woken) partition who wanted ready stays waits =
    let old = waits_exists wanted (item_at partition.table who.proc) waits in
    let change = ticked place who.part woken in
    goes_on wanted (item_at (each_item change partition.table) who.proc) (change who.proc old.process) (turns_each change partition.table who.proc old.process old.is_member)
    (rw stays old.alive) (rw stays old.waits)
keeps_awaiting configuration cores place core (Ret ret) partition who wanted ready stays waits =
    let old = waits_exists wanted (item_at partition.table who.proc) waits in
    let change = returned ret.who.proc in
    let new = by_test (λ (y : Process). (y.alive ≡ true) × (is_for wanted y.wait ≡ true)) (nat_eq who.proc ret.who.proc) (record old.process { due = None }) old.process
    (λ own. (old.alive, old.waits)) (λ other. (old.alive, old.waits)) in
    return_case (λ next. awaits wanted (item_at next.table who.proc) ≡ true) configuration cores place core who.part ret partition
    (goes_on wanted (item_at (each_item change partition.table) who.proc) (change who.proc old.process) (turns_each change partition.table who.proc old.process old.is_member) new.0 new.1) waits
keeps_awaiting configuration cores place core (Error report) partition who wanted ready stays waits =
    let old = waits_exists wanted (item_at partition.table who.proc) waits in
    let change = reported place partition report in
    let new = reported_case (λ (y : Process). (y.alive ≡ true) × (is_for wanted y.wait ≡ true)) place partition report who.proc old.process
    (λ deadline faulted. (old.alive, old.waits)) (λ handler deadline rests. (refl, old.waits)) in
    error_case (λ next. awaits wanted (item_at next.table who.proc) ≡ true) configuration cores place core who.part report partition
    (λ own none. goes_on wanted (item_at (each_item change partition.table) who.proc) (change who.proc old.process) (turns_each change partition.table who.proc old.process old.is_member) new.0 new.1)
    (λ own restart is. absurd (told_ends configuration report who restart is own stays))
    (λ elsewhere. waits)
keeps_awaiting configuration cores place core (Call call) partition who wanted ready stays waits =
    let old = waits_exists wanted (item_at partition.table who.proc) waits in
    let table = partition.table in
    either_way (nat_eq call.who.part who.part)
    (λ own. (let here : call.who.part ≡ who.part = eqb-true call.who.part who.part own in
    let same : who ≡ record { part = call.who.part; proc = who.proc } = same_who who (record { part = call.who.part; proc = who.proc }) (sym here) refl in
    let other : nat_eq who.proc call.who.proc ≡ false = cannot_hold (nat_eq who.proc call.who.proc) (λ caller_waits. ready_awaits_not core (item_at table call.who.proc) wanted (ready own).ready
    (subst (λ number. awaits wanted (item_at table number) ≡ true) (eqb-true who.proc call.who.proc caller_waits) waits)) in
    let new = called_waits configuration cores partition place (time_of cores core) core call (ready own) who.proc old.process wanted old.is_member old.alive old.waits other
    (subst (λ one. ends_wait call one ≡ false) same stays) in
    let change = called place (time_of cores core) (period_of configuration call.who.part) cores partition call in
    let more = created_by (first_core configuration call.who.part) call call.request in
    rw (own, no_restart configuration call (not_restarted call who (sym here) stays)) (goes_on wanted (item_at (each_item change table ++ more) who.proc) (change who.proc old.process)
    (found_changed change table more who.proc old.process old.is_member) new.0 new.1)))
    (λ foreign. rw foreign (woken_waits place (message_of call.request) call.claim.woken table who wanted (not_named call who stays) waits))
keeps_awaiting configuration cores place core (Arrive crossing) partition who wanted ready stays waits =
    woken_waits place crossing.message crossing.woken partition.table who wanted stays waits
keeps_awaiting configuration cores place core (Depart crossing) partition who wanted ready stays waits = woken_waits place [] crossing.woken partition.table who wanted stays waits

-- a caller that waits

-- the wait of a call is in a set exactly if that is the set of the call
in_set : (wanted : WaitingSet) (set : Option WaitingSet) (due : Option ℕ) → is_in wanted (wait_in set due) ≡ is_the_set wanted set
in_set wanted None due = refl
in_set wanted (Some set) due = refl

begun_in : (wanted : WaitingSet) (asked : Request) (chan : Option ℕ) (now : ℕ) (x : Process) → is_in wanted (wait_of asked chan now x) ≡ is_the_set wanted (set_of asked chan)
begun_in wanted (Request.Caller (CallerOperation.TimedWait (pos delay))) chan now x = refl
begun_in wanted (Request.Caller (CallerOperation.TimedWait (negsuc n))) chan now x = refl
begun_in wanted (Request.Caller CallerOperation.PeriodicWait) chan now x = refl
begun_in wanted (Request.Caller (CallerOperation.SuspendSelf time_out)) chan now x = refl
begun_in wanted (Request.Preemption operation) chan now x = refl
begun_in wanted asked chan now x = in_set wanted (set_of asked chan) (due_of_call (time_out_of asked) now)

-- and is for the lock exactly if the call is of the lock
in_no_lock : (set : Option WaitingSet) (due : Option ℕ) → is_for_lock (wait_in set due) ≡ false
in_no_lock None due = refl
in_no_lock (Some set) due = refl

begun_for_lock : (asked : Request) (chan : Option ℕ) (now : ℕ) (x : Process) → is_for_lock (wait_of asked chan now x) ≡ is_of_lock asked
begun_for_lock (Request.Caller (CallerOperation.TimedWait (pos delay))) chan now x = refl
begun_for_lock (Request.Caller (CallerOperation.TimedWait (negsuc n))) chan now x = refl
begun_for_lock (Request.Caller CallerOperation.PeriodicWait) chan now x = refl
begun_for_lock (Request.Caller (CallerOperation.SuspendSelf time_out)) chan now x = refl
begun_for_lock (Request.Preemption operation) chan now x = refl
begun_for_lock asked chan now x = in_no_lock (set_of asked chan) (due_of_call (time_out_of asked) now)

pub begun_for : (wanted : Awaited) (asked : Request) (chan : Option ℕ) (now : ℕ) (x : Process) → is_for wanted (wait_of asked chan now x) ≡ begins wanted asked chan
begun_for (Awaited.TheSet wanted) asked chan now x = begun_in wanted asked chan now x
begun_for Awaited.TheLock asked chan now x = begun_for_lock asked chan now x

-- a request that begins to wait doesn't end the handler
pub ends_not : (wanted : Awaited) (asked : Request) (chan : Option ℕ) (partition : Partition) (caller : ℕ) → begins wanted asked chan ≡ true → handles_more partition caller asked ≡ false
ends_not (Awaited.TheSet wanted) (Request.Caller CallerOperation.StopSelf) chan partition caller is = impossible is
ends_not Awaited.TheLock (Request.Caller CallerOperation.StopSelf) chan partition caller is = impossible is
ends_not wanted (Request.Caller operation) chan partition caller is = refl
ends_not wanted _ chan partition caller is = refl

-- the caller after a call that waits
waiting_caller : (place now : ℕ) (more : Bool) (call : CallRecord) (x : Process) (wanted : Awaited) (given : Out) → call.claim.out ≡ given → is_waiting given ≡ true → more ≡ false
    → x.alive ≡ true → begins wanted call.request call.claim.chan ≡ true
    → ((caller_after place now more call x).alive ≡ true) × (is_for wanted (caller_after place now more call x).wait ≡ true)
waiting_caller place now true call x wanted given is waits none alive begins = impossible (sym none)
waiting_caller place now false call x wanted Out.Waits given waits none alive is = rw given (alive, begun_for wanted call.request call.claim.chan now x ∙ is)
waiting_caller place now false call x wanted _ given waits none alive is = impossible waits

pub entered_awaits : (configuration : Configuration) (cores : List CoreState) (place core : ℕ) (call : CallRecord) (partition : Partition) → IsReadyCall configuration partition core call
    → (wanted : Awaited) → goes_in wanted call ≡ true
    → awaits wanted (item_at (partition_by configuration cores place core call.who.part (Call call) partition).table call.who.proc) ≡ true
entered_awaits configuration cores place core call partition caller wanted enters =
    let ready = caller.ready in
    let parts = and_parts (is_waiting call.claim.out) (begins wanted call.request call.claim.chan) enters in
    let period = period_of configuration call.who.part in
    let changed = adjusted place period cores partition call call.who.proc ready.process in
    let alive : changed.alive ≡ true = by_test (λ (y : Process). y.alive ≡ true) (is_done call.claim.out) (set_by place period cores partition call.who.proc call.request call.who.proc ready.process) ready.process
    (λ done. set_by_alive place period cores partition call.who.proc call.request call.who.proc ready.process ready.ready.alive) (λ not_done. ready.ready.alive) in
    let more = handles_more partition call.who.proc call.request in
    let ends = ends_not wanted call.request call.claim.chan partition call.who.proc parts.1 in
    let new = waiting_caller place (time_of cores core) more call changed wanted call.claim.out refl parts.0 ends alive parts.1 in
    let change = called place (time_of cores core) period cores partition call in
    let is = found_changed change partition.table (created_by (first_core configuration call.who.part) call call.request) call.who.proc ready.process ready.is_member in
    let caller : change call.who.proc ready.process ≡ caller_after place (time_of cores core) more call changed = rw (is_itself call.who.proc) refl in
    rw (is_itself call.who.part, no_restart configuration call (waiting_goes_on call parts.0)) (goes_on wanted (item_at (each_item change partition.table ++ created_by (first_core configuration call.who.part) call call.request) call.who.proc)
    (caller_after place (time_of cores core) more call changed) (is ∙ ap Some caller) new.0 new.1)

-- so it is with the sets

pub keeps_waiting : (configuration : Configuration) (cores : List CoreState) (place core : ℕ) (body : Body) (partition : Partition) (who : Who) (wanted : WaitingSet)
    → CallsReady configuration core who.part body partition → leaves body who ≡ false → waits_at wanted (item_at partition.table who.proc) ≡ true
    → waits_at wanted (item_at (partition_by configuration cores place core who.part body partition).table who.proc) ≡ true
keeps_waiting configuration cores place core body partition who wanted ready stays waits =
    sym (set_awaits wanted (item_at (partition_by configuration cores place core who.part body partition).table who.proc))
    ∙ keeps_awaiting configuration cores place core body partition who (Awaited.TheSet wanted) ready stays (set_awaits wanted (item_at partition.table who.proc) ∙ waits)

pub entered_waits : (configuration : Configuration) (cores : List CoreState) (place core : ℕ) (call : CallRecord) (partition : Partition) → IsReadyCall configuration partition core call
    → (wanted : WaitingSet) → enters call wanted ≡ true
    → waits_at wanted (item_at (partition_by configuration cores place core call.who.part (Call call) partition).table call.who.proc) ≡ true
entered_waits configuration cores place core call partition caller wanted enters =
    sym (set_awaits wanted (item_at (partition_by configuration cores place core call.who.part (Call call) partition).table call.who.proc))
    ∙ entered_awaits configuration cores place core call partition caller (Awaited.TheSet wanted) enters

-- and with the lock

pub keeps_waiting_for_lock : (configuration : Configuration) (cores : List CoreState) (place core : ℕ) (body : Body) (partition : Partition) (who : Who)
    → CallsReady configuration core who.part body partition → leaves body who ≡ false → waits_for_lock (item_at partition.table who.proc) ≡ true
    → waits_for_lock (item_at (partition_by configuration cores place core who.part body partition).table who.proc) ≡ true
keeps_waiting_for_lock configuration cores place core body partition who ready stays waits =
    sym (lock_awaits (item_at (partition_by configuration cores place core who.part body partition).table who.proc))
    ∙ keeps_awaiting configuration cores place core body partition who Awaited.TheLock ready stays (lock_awaits (item_at partition.table who.proc) ∙ waits)

pub entered_waits_for_lock : (configuration : Configuration) (cores : List CoreState) (place core : ℕ) (call : CallRecord) (partition : Partition) → IsReadyCall configuration partition core call
    → enters_lock call ≡ true
    → waits_for_lock (item_at (partition_by configuration cores place core call.who.part (Call call) partition).table call.who.proc) ≡ true
entered_waits_for_lock configuration cores place core call partition caller enters =
    sym (lock_awaits (item_at (partition_by configuration cores place core call.who.part (Call call) partition).table call.who.proc))
    ∙ entered_awaits configuration cores place core call partition caller Awaited.TheLock enters

-- The waiting sets of a partition after a record: what holds of each set before it, and what then holds of each set.

-- one set

-- a caller that enters has this
abbrev pub EntersWith : ℕ → Body → WaitingSet → (Entry → Type 0) → Type 0
EntersWith place (Call call) wanted Then = enters call wanted ≡ true → Then (entry_of place call)
EntersWith place _ wanted Then = Unit {0}

-- each entry of a set after a record: one that was in it and stays, or the caller's that enters
pub each_entry : (Fact Then : Entry → Type 0) (place : ℕ) (body : Body) (wanted : WaitingSet) → ((entry : Entry) → leaves body entry.who ≡ false → Fact entry → Then entry)
    → EntersWith place body wanted Then → (entries : List Entry) → AllEntries Fact entries → AllEntries Then (set_after place body wanted entries)
each_entry Fact Then place (Disp who) wanted stays entering entries all = all_weaker Fact Then (λ entry is. stays entry refl is) entries all
each_entry Fact Then place (Ret ret) wanted stays entering entries all = all_weaker Fact Then (λ entry is. stays entry refl is) entries all
each_entry Fact Then place (Tick woken) wanted stays entering entries all = all_without Fact Then (λ who. is_named who woken) stays entries all
each_entry Fact Then place (Arrive crossing) wanted stays entering entries all = all_without Fact Then (λ who. is_named who crossing.woken) stays entries all
each_entry Fact Then place (Depart crossing) wanted stays entering entries all = all_without Fact Then (λ who. is_named who crossing.woken) stays entries all
each_entry Fact Then place (Error report) wanted stays entering entries all =
    by_test (AllEntries Then) report.restarts (without (λ who. nat_eq who.part report.who.part) entries) entries
    (λ restarts. all_without Fact Then (λ who. nat_eq who.part report.who.part) (λ entry other is. stays entry (not_second report.restarts (nat_eq entry.who.part report.who.part) other) is) entries all)
    (λ goes_on. all_weaker Fact Then (λ entry is. stays entry (not_first report.restarts (nat_eq entry.who.part report.who.part) goes_on) is) entries all)
each_entry Fact Then place (Call call) wanted stays entering entries all =
    let rest : AllEntries Then (without (ends_wait call) entries) = all_without Fact Then (ends_wait call) stays entries all in
    by_test (AllEntries Then) (enters call wanted) (without (ends_wait call) entries ++ entry_of place call ∷ []) (without (ends_wait call) entries)
    (λ here. all_push Then (without (ends_wait call) entries) (entry_of place call) rest (entering here)) (λ elsewhere. rest)

-- the sets of a partition

-- a partition's table and mode say nothing of its sets
pub same_sets : (partition : Partition) (table : Table) (wanted : WaitingSet) → entries_at (record partition { table = table }) wanted ≡ entries_at partition wanted
same_sets partition table wanted = ap (λ objects. entries_in (entries_at_end wanted.kind wanted.end) (item_at objects wanted.number)) (same wanted.kind)
  where
    same : (one : ObjectKind) → objects_of (record partition { table = table }) one ≡ objects_of partition one
    same kind.Buffer = refl
    same _ = refl

-- nor does its lock
pub same_sets_with : (partition : Partition) (lock : Lock) (table : Table) (wanted : WaitingSet) → entries_at (record partition { lock = lock; table = table }) wanted ≡ entries_at partition wanted
same_sets_with partition lock table wanted = ap (λ objects. entries_in (entries_at_end wanted.kind wanted.end) (item_at objects wanted.number)) (same wanted.kind)
  where
    same : (one : ObjectKind) → objects_of (record partition { lock = lock; table = table }) one ≡ objects_of partition one
    same kind.Buffer = refl
    same _ = refl

-- nor do the listed errors
pub same_sets_reported : (partition : Partition) (errors : List ListedError) (table : Table) (wanted : WaitingSet) → entries_at (record partition { errors = errors; table = table }) wanted ≡ entries_at partition wanted
same_sets_reported partition errors table wanted = ap (λ objects. entries_in (entries_at_end wanted.kind wanted.end) (item_at objects wanted.number)) (same wanted.kind)
  where
    same : (one : ObjectKind) → objects_of (record partition { errors = errors; table = table }) one ≡ objects_of partition one
    same kind.Buffer = refl
    same _ = refl

pub called_sets : (configuration : Configuration) (cores : List CoreState) (place core : ℕ) (call : CallRecord) (partition : Partition) (wanted : WaitingSet)
    → entries_at (partition_called configuration cores place core call partition) wanted ≡ entries_at (objects_called configuration place call partition) wanted
called_sets configuration cores place core call partition wanted = ap (λ objects. entries_in (entries_at_end wanted.kind wanted.end) (item_at objects wanted.number)) (same wanted.kind)
  where
    same : (one : ObjectKind) → objects_of (partition_called configuration cores place core call partition) one ≡ objects_of (objects_called configuration place call partition) one
    same kind.Buffer = refl
    same _ = refl

-- the objects of the caller's partition that a call uses or creates, before their sets change
pub used_sets : (Holds : List Entry → Type 0) (configuration : Configuration) (call : CallRecord) (partition : Partition) (wanted : WaitingSet) → Holds (entries_at partition wanted)
    → Holds (entries_at (cond (is_done call.claim.out) (objects_by configuration call.who call.claim.val call.request partition) partition) wanted)
used_sets Holds configuration call partition wanted has =
    done_case (λ next. Holds (entries_at next wanted)) configuration call partition (λ done. objects_have Holds configuration call.who call.claim.val call.request partition wanted has) has

-- a call of another partition, an arrival, a departure or an error, which changes no set in the way that it changes those of its channel
abbrev pub IsElsewhere : ℕ → Body → Type 0
IsElsewhere number (Call call) = nat_eq call.who.part number ≡ false
IsElsewhere number (Arrive crossing) = Unit {0}
IsElsewhere number (Depart crossing) = Unit {0}
IsElsewhere number (Error report) = Unit {0}
IsElsewhere number _ = ⊥

-- such a record leaves all sets of a partition, unless it is an error that restarts the partition
abbrev pub LeavesSets : Configuration → ℕ → Body → Type 0
LeavesSets configuration number (Call call) = nat_eq call.who.part number ≡ false
LeavesSets configuration number (Arrive crossing) = Unit {0}
LeavesSets configuration number (Depart crossing) = Unit {0}
LeavesSets configuration number (Error report) = (nat_eq report.who.part number ≡ false) ⊎ (restart_reported configuration report ≡ None)
LeavesSets configuration number _ = ⊥

-- such an error ends no wait of this partition's processes
pub error_ends_none : (configuration : Configuration) (core number : ℕ) (report : ErrorReport) (partition : Partition) (who : Who) → CallsReady configuration core number (Error report) partition
    → LeavesSets configuration number (Error report) → who.part ≡ number → leaves (Error report) who ≡ false
error_ends_none configuration core number report partition who ready elsewhere here = by elsewhere
  where
    foreign : nat_eq report.who.part number ≡ false → leaves (Error report) who ≡ false
    foreign there = not_second report.restarts (nat_eq who.part report.who.part) (differs_back report.who.part who.part (ap (nat_eq report.who.part) here ∙ there))

    by : (nat_eq report.who.part number ≡ false) ⊎ (restart_reported configuration report ≡ None) → leaves (Error report) who ≡ false
    by (inl there) = foreign there
    by (inr none) =
        either_way (nat_eq report.who.part number)
        (λ own. not_first report.restarts (nat_eq who.part report.who.part) (cannot_hold report.restarts (λ restarts. never_found (sym none ∙ (ready own restarts).1)))) foreign

-- a set of a partition after a record, by the set before it: a call of another partition leaves it, and so do an arrival and a departure
pub one_set_after : (Before After : List Entry → Type 0) (configuration : Configuration) (cores : List CoreState) (place core number : ℕ) (body : Body) (partition : Partition) (wanted : WaitingSet)
    → After [] → ((IsElsewhere number body → ⊥) → (entries : List Entry) → Before entries → After (set_after place body wanted entries))
    → (LeavesSets configuration number body → Before (entries_at partition wanted) → After (entries_at partition wanted))
    → Before (entries_at partition wanted) → After (entries_at (partition_by configuration cores place core number body partition) wanted)
one_set_after Before After configuration cores place core number (Disp who) partition wanted nobody change foreign before = change (λ none. none) (entries_at partition wanted) before
one_set_after Before After configuration cores place core number (Ret ret) partition wanted nobody change foreign before =
    let after = change (λ none. none) (entries_at partition wanted) before in
    return_case (λ next. After (entries_at next wanted)) configuration cores place core number ret partition
    (subst After (sym (same_sets partition (each_item (returned ret.who.proc) partition.table) wanted)) after) after
one_set_after Before After configuration cores place core number (Tick woken) partition wanted nobody change foreign before =
    subst After (sym (same_sets_with (each_set (set_after place (Tick woken)) partition) (lock_left place (Tick woken) partition.lock) (each_item (ticked place number woken) partition.table) wanted))
    (each_set_has After nobody (set_after place (Tick woken)) partition wanted (change (λ none. none) (entries_at partition wanted) before))
one_set_after Before After configuration cores place core number (Call call) partition wanted nobody change foreign before =
    let objects : Partition = cond (is_done call.claim.out) (objects_by configuration call.who call.claim.val call.request partition) partition in
    call_case (λ next. After (entries_at next wanted)) configuration cores place core number call partition
    (λ own none. subst After (sym (called_sets configuration cores place core call partition wanted))
    (each_set_has After nobody (set_after place (Call call)) objects wanted
    (change (λ elsewhere. true≢false (sym own ∙ elsewhere)) (entries_at objects wanted) (used_sets Before configuration call partition wanted before))))
    (λ own restart is. subst After (sym (start_set restart.start restart.mode configuration call.who.part place wanted)) nobody)
    (λ elsewhere. subst After (sym (same_sets partition (woken_table place number (message_of call.request) call.claim.woken partition.table) wanted)) (foreign elsewhere before))
one_set_after Before After configuration cores place core number (Error report) partition wanted nobody change foreign before =
    error_case (λ next. After (entries_at next wanted)) configuration cores place core number report partition
    (λ own none. subst After (sym (same_sets_reported partition (errors_after partition report) (each_item (reported place partition report) partition.table) wanted)) (foreign (inr none) before))
    (λ own restart is. subst After (sym (start_set restart.start restart.mode configuration report.who.part place wanted)) nobody) (λ elsewhere. foreign (inl elsewhere) before)
one_set_after Before After configuration cores place core number (Arrive crossing) partition wanted nobody change foreign before =
    subst After (sym (same_sets partition (woken_table place number crossing.message crossing.woken partition.table) wanted)) (foreign tt before)
one_set_after Before After configuration cores place core number (Depart crossing) partition wanted nobody change foreign before =
    subst After (sym (same_sets partition (woken_table place number [] crossing.woken partition.table) wanted)) (foreign tt before)

-- the set of the lock after a record

-- each entry of the set after a record of the partition: one that was in it and stays, or the caller's that enters
abbrev pub EntersLockWith : ℕ → Body → (Entry → Type 0) → Type 0
EntersLockWith place (Call call) Then = enters_lock call ≡ true → Then (entry_of place call)
EntersLockWith place _ Then = Unit {0}

-- no operation changes who waits: the record does
passed_waiters : (first : Option Entry) (lock : Lock) → (passed_to first lock).waiters ≡ lock.waiters
passed_waiters None lock = refl
passed_waiters (Some waiter) lock = refl

pub stopped_waiters : (number : ℕ) (lock : Lock) → (lock_stopped number lock).waiters ≡ lock.waiters
stopped_waiters number lock =
    by_test (λ (next : Lock). next.waiters ≡ lock.waiters) (is_owner lock.owner number) (passed_on lock) lock (λ owns. passed_waiters (first_for_lock lock) lock) (λ other. refl)

locked_waiters : (caller : ℕ) (lock : Lock) (owner : Option ℕ) → (locked_from owner caller lock).next.waiters ≡ lock.waiters
locked_waiters caller lock None = refl
locked_waiters caller lock (Some owner) =
    by_test (λ (effect : Effect Lock). effect.next.waiters ≡ lock.waiters) (nat_eq owner caller) (locked_again lock) (not_locked lock) (λ own. refl) (λ other. refl)

effect_waiters : (caller : ℕ) (operation : LockOperation) (lock : Lock) → (lock_effect caller operation lock).next.waiters ≡ lock.waiters
effect_waiters caller LockOperation.Lock lock = locked_waiters caller lock lock.owner
effect_waiters caller LockOperation.Unlock lock =
    by_test (λ (effect : Effect Lock). effect.next.waiters ≡ lock.waiters) (nat_lt 1 lock.level) (unlocked_once lock) (given_up lock)
    (λ more. refl) (λ last. passed_waiters (first_for_lock lock) lock)

pub lock_by_waiters : (caller : ℕ) (asked : Request) (lock : Lock) → (lock_by caller asked lock).waiters ≡ lock.waiters
lock_by_waiters caller (Request.Preemption operation) lock = effect_waiters caller operation lock
lock_by_waiters caller (Request.Process process ProcessOperation.Stop) lock = stopped_waiters (natural_of process) lock
lock_by_waiters caller (Request.Caller CallerOperation.StopSelf) lock = stopped_waiters caller lock
lock_by_waiters caller _ lock = refl

pub called_waiters : (place : ℕ) (call : CallRecord) (lock : Lock) → (lock_called place call lock).waiters ≡ lock_waiters_after place (Call call) lock.waiters
called_waiters place call lock =
    ap (lock_waiters_after place (Call call)) (by_test (λ (next : Lock). next.waiters ≡ lock.waiters) (is_done call.claim.out) (lock_by call.who.proc call.request lock) lock
    (λ done. lock_by_waiters call.who.proc call.request lock) (λ not_done. refl))

-- the set of a partition's lock after a record, by the set before it
pub lock_set_after : (Before After : List Entry → Type 0) (configuration : Configuration) (cores : List CoreState) (place core number : ℕ) (body : Body) (partition : Partition)
    → After [] → ((IsElsewhere number body → ⊥) → Before partition.lock.waiters → After (lock_waiters_after place body partition.lock.waiters))
    → (LeavesSets configuration number body → Before partition.lock.waiters → After partition.lock.waiters)
    → Before partition.lock.waiters → After (partition_by configuration cores place core number body partition).lock.waiters
lock_set_after Before After configuration cores place core number (Disp who) partition nobody change foreign before = change (λ none. none) before
lock_set_after Before After configuration cores place core number (Ret ret) partition nobody change foreign before =
    return_case (λ next. After next.lock.waiters) configuration cores place core number ret partition (change (λ none. none) before) (change (λ none. none) before)
lock_set_after Before After configuration cores place core number (Tick woken) partition nobody change foreign before = change (λ none. none) before
lock_set_after Before After configuration cores place core number (Call call) partition nobody change foreign before =
    call_case (λ next. After next.lock.waiters) configuration cores place core number call partition
    (λ own none. subst After (sym (called_waiters place call partition.lock)) (change (λ elsewhere. true≢false (sym own ∙ elsewhere)) before))
    (λ own restart is. nobody) (λ elsewhere. foreign elsewhere before)
lock_set_after Before After configuration cores place core number (Error report) partition nobody change foreign before =
    error_case (λ next. After next.lock.waiters) configuration cores place core number report partition
    (λ own none. foreign (inr none) before) (λ own restart is. nobody) (λ elsewhere. foreign (inl elsewhere) before)
lock_set_after Before After configuration cores place core number (Arrive crossing) partition nobody change foreign before = foreign tt before
lock_set_after Before After configuration cores place core number (Depart crossing) partition nobody change foreign before = foreign tt before
