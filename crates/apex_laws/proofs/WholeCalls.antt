-- What a lawful call does to every process, object, port, channel and waiting set is what the sentences say.
use Rattle.std.proofs.Common.{◌≡◌, ◌⊎◌, ℕ, ◌<◌, List, [], ◌∷◌, ◌++◌, Bool, true, false, cond, nat_eq, nat_lt, Option, Some, None, option_map, ℤ, pos, negsuc, IsTrue, refl, sym, ap, subst, ◌∙◌, inl, inr, true≢false}
use Rattle.std.proofs.lemmas.Bool.{and_parts, eqb-true, eq-eqb}
use Rattle.apex_types.specs.declared.object_kind.ObjectKind.TheVariants as kind
use Rattle.apex_types.specs.declared.operation.{QueuingOperation.QueuingOperation, SamplingOperation.SamplingOperation}
use Rattle.apex_types.specs.declared.operation.ObjectOperation.TheVariants as on
use Rattle.apex_laws.proofs.Common.{AllEntries, Answer, AreTied, BlackboardOperation, BufferOperation, Call, CallerOperation, CallIsTheSentence, CallRecord, CanHave, Channel, Claim, Code, Condition, Configuration, Content, CoreState, Effect}
use Rattle.apex_laws.proofs.Common.{Entry, EventOperation, GoesThrough, HasCode, HasOutcome, HasValues, IsAdded, IsBegun, IsLawfulCall, IsSetIfDone, IsTied, Mutex, MutexOperation, NamesExactly, ObjectOf, ObjectOperation, ObjectsAre, Out}
use Rattle.apex_laws.proofs.Common.{Partition, Process, ProcessOperation, Receivers, Request, SemaphoreOperation, Senders, SetsAreInOrder, State, Table, Use, Wait, WaitingSet, WaitsForOther, Who, adjusted, answer_by, answer_of, at_maximum}
use Rattle.apex_laws.proofs.Common.{called, caller_after, channel_effect, channel_of, channel_set, conditions_of, created, created_by, done, each_item, each_set, emptied, entries_at, first_core, first_waiter, given_object, handed_on}
use Rattle.apex_laws.proofs.Common.{is_channel, is_done, is_in, is_named, is_receiver, is_sender, is_suspension, is_waiting, item_at, kind_used, message_of, mutex_released, natural_of, new_process, numbered, object_effect, objects_by}
use Rattle.apex_laws.proofs.Common.{objects_called, objects_of, own_partition, partition_called, peer, period_of, process_in, raised, released_once, restart_of, resuming, set_after, set_at, set_by, signalled, stopped, stops, suits}
use Rattle.apex_laws.proofs.Common.{suits_use, time_of, use_of, used, wait_of, waits_at, waits_for_normal, waking, woken_by, woken_if_named}
use Rattle.apex_laws.proofs.Common.{process_status}
use Rattle.apex_laws.proofs.Booleans.{by_test, cannot_hold, either_way, impossible, is_itself, never_found, one_item}
use Rattle.apex_laws.proofs.Demanded.{channel_can, goes_to, through_claimed}
use Rattle.apex_laws.proofs.Keeps.{found_changed, IsNotStarted, set_by_wait}
use Rattle.apex_laws.proofs.ObjectRules.{channel_is_the_sentence}
use Rattle.apex_laws.proofs.ProcessRules.{caller_is_the_sentence, creation_is_the_sentence, setting_is_the_sentence, waking_is_the_sentence}
use Rattle.apex_laws.proofs.LockCalls.{lock_says}
use Rattle.apex_laws.proofs.Records.{emptied_same, foreign_rest, lawful_body, next_channel, next_cores, next_partition, set_says}
use Rattle.apex_laws.proofs.ErrorRules.{handler_says, list_says}
use Rattle.apex_laws.proofs.Common.{HealthOperation, IsHandlerAfter, IsListAfter, ListedError, errors_by, handler_by, handles_more, health_answer, never, oldest_reported, restarts_by_error}
use Rattle.apex_laws.proofs.Restarts.{no_restart as none_made, woken_table}
use Rattle.apex_laws.proofs.Stays.{order_is_apart}
use Rattle.apex_laws.proofs.Tables.{at_each, found_after, stays_each, turns_each}
use Rattle.apex_laws.proofs.Waiters.{all_weaker}
use Rattle.apex_laws.proofs.WaitersOf.{free_exists, same_who}
use Rattle.apex_laws.proofs.Wakes.{answer_wakes, channel_wakes, ClaimsOutcome, created_is, found, lock_awaited, nobody, waiting_tells}
use Rattle.apex_laws.proofs.Common.{IsTiedToLock, Lock, LockOperation, given_up, is_for_lock, unlocked_once, waits_for_lock}

-- a caller that waits has something to wait for

-- an answer does not wait
no_wait : {Fact : Type 0} {code : Code} → Out.Answer code ≡ Out.Waits → Fact
no_wait waits = cc

-- an object that gives a wait is there
object_waits : {Object : Type 0} (found : Option Object) (gives : Object → Answer) → (answer_by found gives).out ≡ Out.Waits → (object : Object) × ((gives object).out ≡ Out.Waits)
object_waits None gives waits = no_wait waits
object_waits (Some object) gives waits = (object, waits)

signal_no_wait : (maximum : ℕ) (first : Option Entry) (value : ℕ) → (signalled maximum first value).answer.out ≡ Out.Waits → ⊥
signal_no_wait maximum (Some waiter) value waits = no_wait waits
signal_no_wait maximum None value waits =
    by_test (λ (effect : Effect ℕ). effect.answer.out ≡ Out.Waits → ⊥) (nat_lt value maximum) (raised value) (at_maximum value) (λ below waits. no_wait waits) (λ full waits. no_wait waits) waits

hand_on_no_wait : (first : Option Entry) (mutex : Mutex) → (handed_on first mutex).answer.out ≡ Out.Waits → ⊥
hand_on_no_wait None mutex waits = no_wait waits
hand_on_no_wait (Some waiter) mutex waits = no_wait waits

release_no_wait : (first : Option Entry) (mutex : Mutex) → (mutex_released first mutex).answer.out ≡ Out.Waits → ⊥
release_no_wait first mutex waits =
    by_test (λ (effect : Effect Mutex). effect.answer.out ≡ Out.Waits → ⊥) (nat_lt 1 mutex.count) (released_once mutex) (handed_on first mutex) (λ more waits. no_wait waits) (λ last. hand_on_no_wait first mutex) waits

resume_no_wait : (target : Who) (found : Option Process) → (resuming target found).out ≡ Out.Waits → ⊥
resume_no_wait target None waits = no_wait waits
resume_no_wait target (Some process) waits =
    by_test (λ (answer : Answer). answer.out ≡ Out.Waits → ⊥) (is_suspension process.wait) (waking (target ∷ [])) done (λ suspends waits. no_wait waits) (λ runs waits. no_wait waits) waits

-- no service of health monitoring waits
health_no_wait : (configuration : Configuration) (number : ℕ) (partition : Partition) (caller : ℕ) (operation : HealthOperation)
    → (health_answer configuration number partition caller operation).out ≡ Out.Waits → ⊥
health_no_wait configuration number partition caller (HealthOperation.RaiseError error length message) waits =
    by_test (λ (answer : Answer). answer.out ≡ Out.Waits → ⊥) (restarts_by_error configuration number partition caller) never done
    (λ restarts waits. (let no : Out.Never ≡ Out.Waits = waits in cc)) (λ goes_on waits. no_wait waits) waits
health_no_wait configuration number partition caller HealthOperation.GetErrorStatus waits = by partition.errors waits
  where
    by : (errors : List ListedError) → (oldest_reported errors).out ≡ Out.Waits → ⊥
    by [] waits = no_wait waits
    by (error ∷ errors) waits = no_wait waits
health_no_wait configuration number partition caller _ waits = no_wait waits

-- an operation that waits begins a wait in a set of its object
operation_begun : (now caller : ℕ) (number : ℤ) (operation : ObjectOperation) (process : Process) (found : ObjectOf (kind_used operation)) → (object_effect caller operation found).answer.out ≡ Out.Waits
    → IsBegun now (Request.Object number operation) None process (wait_of (Request.Object number operation) None now process)
operation_begun now caller number (on.Buffer (BufferOperation.Send length time_out message)) process found waits = IsBegun.object (set_at kind.Buffer (natural_of number) Senders) refl refl
operation_begun now caller number (on.Buffer (BufferOperation.Receive time_out)) process found waits = IsBegun.object (set_at kind.Buffer (natural_of number) Receivers) refl refl
operation_begun now caller number (on.Blackboard (BlackboardOperation.Read time_out)) process found waits = IsBegun.object (set_at kind.Blackboard (natural_of number) Receivers) refl refl
operation_begun now caller number (on.Semaphore (SemaphoreOperation.Wait time_out)) process found waits = IsBegun.object (set_at kind.Semaphore (natural_of number) Receivers) refl refl
operation_begun now caller number (on.Event (EventOperation.Wait time_out)) process found waits = IsBegun.object (set_at kind.Event (natural_of number) Receivers) refl refl
operation_begun now caller number (on.Mutex (MutexOperation.Acquire time_out)) process found waits = IsBegun.object (set_at kind.Mutex (natural_of number) Receivers) refl refl
operation_begun now caller number (on.Semaphore SemaphoreOperation.Signal) process found waits = absurd (signal_no_wait found.maximum (first_waiter found.discipline found.waiters) found.value waits)
operation_begun now caller number (on.Mutex MutexOperation.Release) process found waits = absurd (release_no_wait (first_waiter found.discipline found.waiters) found waits)
operation_begun now caller number (on.Mutex (MutexOperation.Reset named)) process found waits = absurd (hand_on_no_wait (first_waiter found.discipline found.waiters) found waits)
operation_begun now caller number _ process found waits = no_wait waits

-- a call that uses no channel and waits
own_begun : (configuration : Configuration) (cores : List CoreState) (core : ℕ) (who : Who) (partition : Partition) (asked : Request) (process : Process) → conditions_of configuration (time_of cores core) who partition asked ≡ []
    → (answer_of configuration cores core who partition asked).out ≡ Out.Waits → IsBegun (time_of cores core) asked None process (wait_of asked None (time_of cores core) process)
own_begun configuration cores core who partition (Request.Caller (CallerOperation.TimedWait (pos ticks))) process none waits = IsBegun.delay ticks refl refl
own_begun configuration cores core who partition (Request.Caller (CallerOperation.TimedWait (negsuc n))) process none waits = cc
own_begun configuration cores core who partition (Request.Caller CallerOperation.PeriodicWait) process none waits = IsBegun.release refl refl
own_begun configuration cores core who partition (Request.Caller (CallerOperation.SuspendSelf time_out)) process none waits = IsBegun.suspension time_out refl refl
own_begun configuration cores core who partition (Request.Object number operation) process none waits =
    let there = object_waits (given_object (objects_of partition (kind_used operation)) number) (λ found. (object_effect who.proc operation found).answer) waits in
    operation_begun (time_of cores core) who.proc number operation process there.0 there.1
own_begun configuration cores core who partition (Request.Preemption LockOperation.Lock) process none waits = IsBegun.lock LockOperation.Lock refl refl
own_begun configuration cores core who partition (Request.Preemption LockOperation.Unlock) process none waits =
    absurd (by_test (λ (effect : Effect Lock). effect.answer.out ≡ Out.Waits → ⊥) (nat_lt 1 partition.lock.level) (unlocked_once partition.lock) (given_up partition.lock)
    (λ more waits. no_wait waits) (λ last waits. no_wait waits) waits)
own_begun configuration cores core who partition (Request.Process number ProcessOperation.Resume) process none waits = absurd (resume_no_wait (peer who number) (created partition.table number) waits)
own_begun configuration cores core who partition (Request.Process number ProcessOperation.GetStatus) process none waits =
    let there = object_waits (created partition.table number) (process_status cores (peer who number)) waits in no_wait there.1
own_begun configuration cores core who partition (Request.Caller CallerOperation.StopSelf) process none waits = let no : Out.Never ≡ Out.Waits = waits in cc
own_begun configuration cores core who partition (Request.SetPartitionMode mode) process none waits = let no : Out.Never ≡ Out.Waits = waits in cc
own_begun configuration cores core who partition (Request.Health operation) process none waits = absurd (health_no_wait configuration who.part partition who.proc operation waits)
own_begun configuration cores core who partition _ process none waits = no_wait waits

-- a call through a channel that waits
through_begun : (configuration : Configuration) (now channel partition : ℕ) (asked : Request) (process : Process) (held : Channel) → IsTrue (suits_use configuration channel partition (use_of asked) held)
    → CanHave asked Out.Waits → IsBegun now asked (Some channel) process (wait_of asked (Some channel) now process)
through_begun configuration now channel partition (Request.QueuingPort port (QueuingOperation.Send length time_out message)) process held suited can = IsBegun.object (channel_set channel Senders) refl refl
through_begun configuration now channel partition (Request.QueuingPort port (QueuingOperation.Receive time_out)) process held suited can = IsBegun.object (channel_set channel Receivers) refl refl
through_begun configuration now channel partition (Request.QueuingPort port QueuingOperation.Clear) process held suited can = absurd can
through_begun configuration now channel partition (Request.SamplingPort port (SamplingOperation.Write length message)) process held suited can = absurd can
through_begun configuration now channel partition (Request.SamplingPort port SamplingOperation.Read) process held suited can = absurd can
through_begun configuration now channel partition (Request.GetStatus kind.QueuingPort port) process held suited can = absurd can
through_begun configuration now channel partition _ process held suited can = impossible suited

-- a lawful call that waits
begun : (configuration : Configuration) (state : State) (core : ℕ) (call : CallRecord) → IsLawfulCall configuration state core call → (process : Process)
    → is_waiting call.claim.out ≡ true → IsBegun (time_of state.cores core) call.request call.claim.chan process (wait_of call.request call.claim.chan (time_of state.cores core) process)
begun configuration state core call law process waits =
    by (conditions_of configuration (time_of state.cores core) call.who (state.partitions call.who.part) call.request) refl (channel_of (state.partitions call.who.part) call.request) law.outcome
  where
    Begun : Option ℕ → Type 0
    Begun chan = IsBegun (time_of state.cores core) call.request chan process (wait_of call.request chan (time_of state.cores core) process)

    is : call.claim.out ≡ Out.Waits
    is = (waiting_tells call.claim.out).0 waits

    by : (conditions : List Condition) → conditions_of configuration (time_of state.cores core) call.who (state.partitions call.who.part) call.request ≡ conditions → (channel : Option ℕ)
        → ClaimsOutcome configuration state core call.who call.request call.claim conditions channel → Begun call.claim.chan
    by (one ∷ conditions) at channel has = absurd (refused (one ∷ conditions) has.out)
      where
        refused : (conditions : List Condition) → HasCode conditions call.claim.out → ⊥
        refused conditions has = subst (HasCode conditions) is has
    by [] at None has = subst Begun (sym has.chan) (own_begun configuration state.cores core call.who (state.partitions call.who.part) call.request process at (sym has.out ∙ is))
    by [] at (Some channel) has =
        subst Begun (sym has.chan) (through_begun configuration (time_of state.cores core) channel call.who.part call.request process (state.channels channel) has.kind
        (subst (CanHave call.request) (sym has.out ∙ is) (channel_can configuration (time_of state.cores core) channel call.who.part call.request (state.channels channel) has.kind)))

-- a process that a call names waits for another

-- a wait in a set, or a suspension
pub in_waits : (wanted : WaitingSet) (one : Wait) → is_in wanted one ≡ true → WaitsForOther one
in_waits wanted (Wait.At set due) is = tt
in_waits wanted _ is = impossible is

lock_waits : (one : Wait) → is_for_lock one ≡ true → WaitsForOther one
lock_waits Wait.ForLock is = tt
lock_waits _ is = impossible is

suspension_waits : (one : Wait) → is_suspension one ≡ true → WaitsForOther one
suspension_waits (Wait.Suspended due) is = tt
suspension_waits _ is = impossible is

abbrev OtherAwaited : (ℕ → Partition) → Who → Type 0
OtherAwaited partitions who = (old : Process) → found partitions who ≡ Some old → WaitsForOther old.wait

tied_waits : (Home : ℕ → Type 0) (wanted : WaitingSet) (partitions : ℕ → Partition) (entries : List Entry) → AllEntries (IsTied Home wanted partitions) entries
    → AllEntries (λ entry. OtherAwaited partitions entry.who) entries
tied_waits Home wanted partitions entries all =
    all_weaker (IsTied Home wanted partitions) (λ entry. OtherAwaited partitions entry.who)
    (λ entry tied old at. in_waits wanted old.wait (and_parts old.alive _ (subst (λ one. waits_at wanted one ≡ true) at tied.1)).1) entries all

tied_to_lock : (partitions : ℕ → Partition) (number : ℕ) → AllEntries (IsTiedToLock number partitions) (partitions number).lock.waiters
    → AllEntries (λ entry. OtherAwaited partitions entry.who) (partitions number).lock.waiters
tied_to_lock partitions number all =
    all_weaker (IsTiedToLock number partitions) (λ entry. OtherAwaited partitions entry.who)
    (λ entry tied old at. lock_waits old.wait (and_parts old.alive _ (subst (λ one. waits_for_lock one ≡ true) at (lock_awaited partitions number entry tied))).1) (partitions number).lock.waiters all

peer_waits : (partitions : ℕ → Partition) (who : Who) (process : ℤ) (target : Process) → created (partitions who.part).table process ≡ Some target → is_suspension target.wait ≡ true
    → OtherAwaited partitions (peer who process)
peer_waits partitions who process target is suspends old at =
    let place = created_is (partitions who.part).table process target is in
    let number : peer who process ≡ record { part = who.part; proc = place.0 } = ap (peer who) place.1 in
    subst (λ one. WaitsForOther one.wait) (one_item (sym place.2 ∙ sym (ap (found partitions) number) ∙ at)) (suspension_waits target.wait suspends)

named_waits : (configuration : Configuration) (state : State) (core : ℕ) (who : Who) (asked : Request) (claim : Claim) → AreTied configuration state → (conditions : List Condition) (channel : Option ℕ)
    → ClaimsOutcome configuration state core who asked claim conditions channel → (one : Who) → is_named one claim.woken ≡ true → OtherAwaited state.partitions one
named_waits configuration state core who asked claim tied (condition ∷ conditions) channel has one named = nobody one claim.woken has.woken named
named_waits configuration state core who asked claim tied [] None has one named =
    (answer_wakes (OtherAwaited state.partitions) configuration state.cores core who (state.partitions who.part) asked
    (λ wanted used. tied_waits (λ home. home ≡ who.part) wanted state.partitions (entries_at (state.partitions who.part) wanted) (tied.objects who.part wanted))
    (peer_waits state.partitions who) (λ gives. tied_to_lock state.partitions who.part (tied.locks who.part)))
    one (sym (has.woken one) ∙ named)
named_waits configuration state core who asked claim tied [] (Some channel) has one named =
    channel_wakes (OtherAwaited state.partitions) configuration (time_of state.cores core) channel who.part (use_of asked) (state.channels channel)
    (tied_waits (λ home. IsTrue (is_receiver configuration channel home)) (channel_set channel Receivers) state.partitions (state.channels channel).receivers (tied.receivers channel))
    (tied_waits (λ home. IsTrue (is_sender configuration channel home)) (channel_set channel Senders) state.partitions (state.channels channel).senders (tied.senders channel))
    one (sym (has.woken one) ∙ named)

-- processes after a call

-- what the call sets, if it was carried out
set_first : (configuration : Configuration) (state : State) (place : ℕ) (call : CallRecord) (number : ℕ) (old : Process) → 0 < period_of configuration call.who.part
    → IsSetIfDone configuration state place call number old (adjusted place (period_of configuration call.who.part) state.cores (state.partitions call.who.part) call number old)
set_first configuration state place call number old above =
    let set : Process = set_by place (period_of configuration call.who.part) state.cores (state.partitions call.who.part) call.who.proc call.request number old in
    by_test (IsSetIfDone configuration state place call number old) (is_done call.claim.out) set old
    (λ done. inl (done, (setting_is_the_sentence place (period_of configuration call.who.part) state.cores (state.partitions call.who.part) call.who.proc call.request number old set above).0 refl))
    (λ not_so. inr (not_so, refl))

-- who waits for another doesn't wait for NORMAL
not_for_normal : (one : Wait) → WaitsForOther one → waits_for_normal one ≡ false
not_for_normal (Wait.Suspended due) waits = refl
not_for_normal (Wait.At set due) waits = refl
not_for_normal Wait.ForLock waits = refl
not_for_normal Wait.Nothing waits = absurd waits
not_for_normal _ waits = absurd waits

-- a start names no process
start_names_nobody : (conditions : List Condition) (suited : ℕ → Bool) (through : ℕ → Answer) (claim : Claim) → HasOutcome conditions None done suited through claim → (one : Who) → is_named one claim.woken ≡ true → ⊥
start_names_nobody [] suited through claim has one named = true≢false (sym named ∙ has.woken one)
start_names_nobody (condition ∷ conditions) suited through claim has one named = nobody one claim.woken has.woken named

not_started : (configuration : Configuration) (cores : List CoreState) (core : ℕ) (who : Who) (partition : Partition) (asked : Request) (suited : ℕ → Bool) (through : ℕ → Answer) (claim : Claim)
    → HasOutcome (conditions_of configuration (time_of cores core) who partition asked) (channel_of partition asked) (answer_of configuration cores core who partition asked) suited through claim
    → (one : Who) → is_named one claim.woken ≡ true → (number : ℕ) → IsNotStarted asked number
not_started configuration cores core who partition (Request.Process process ProcessOperation.Start) suited through claim has one named number =
    absurd (start_names_nobody (conditions_of configuration (time_of cores core) who partition (Request.Process process ProcessOperation.Start)) suited through claim has one named)
not_started configuration cores core who partition (Request.Process process (ProcessOperation.DelayedStart delay)) suited through claim has one named number =
    absurd (start_names_nobody (conditions_of configuration (time_of cores core) who partition (Request.Process process (ProcessOperation.DelayedStart delay))) suited through claim has one named)
not_started configuration cores core who partition _ suited through claim has one named number = tt

-- what the call sets leaves the wait of a process that it names
named_keeps : (configuration : Configuration) (state : State) (place core : ℕ) (call : CallRecord) → IsLawfulCall configuration state core call
    → (one : Who) → is_named one call.claim.woken ≡ true → (number : ℕ) (old : Process) → WaitsForOther old.wait
    → WaitsForOther (adjusted place (period_of configuration call.who.part) state.cores (state.partitions call.who.part) call number old).wait
named_keeps configuration state place core call law one named number old waits =
    let set : Process = set_by place (period_of configuration call.who.part) state.cores (state.partitions call.who.part) call.who.proc call.request number old in
    let starts = not_started configuration state.cores core call.who (state.partitions call.who.part) call.request _ _ call.claim law.outcome one named number in
    let same = set_by_wait place (period_of configuration call.who.part) state.cores (state.partitions call.who.part) call.who.proc call.request number old starts (not_for_normal old.wait waits) in
    by_test (λ (one : Process). WaitsForOther one.wait) (is_done call.claim.out) set old (λ done. subst WaitsForOther (sym same) waits) (λ not_done. waits)

-- objects

-- the objects of the caller's partition
objects_are : (configuration : Configuration) (cores : List CoreState) (place core : ℕ) (call : CallRecord) (partition objects : Partition)
    → cond (is_done call.claim.out) (objects_by configuration call.who call.claim.val call.request partition) partition ≡ objects
    → ObjectsAre (partition_called configuration cores place core call partition) objects
objects_are configuration cores place core call partition objects is =
    let same : objects_called configuration place call partition ≡ each_set (set_after place (Call call)) objects = ap (each_set (set_after place (Call call))) is in
    ap (λ (one : Partition). emptied (record one { mode = objects.mode; handler = objects.handler; errors = objects.errors; lock = objects.lock })) same ∙ emptied_same (set_after place (Call call)) objects

-- what a call adds

-- the process under a claimed number
numbered_is : (claimed : Option ℤ) (process : Process) (number : ℕ)
    → ((claimed ≡ Some (pos number)) × (item_at (numbered claimed process) number ≡ Some process)) ⊎ ((¬ (claimed ≡ Some (pos number))) × (item_at (numbered claimed process) number ≡ None))
numbered_is None process number = inr (λ is. never_found is, refl)
numbered_is (Some (negsuc n)) process number = inr (λ is. (let no : negsuc n ≡ pos number = one_item is in cc), refl)
numbered_is (Some (pos n)) process number =
    either_way (nat_eq number n) (λ same. inl (ap (λ (one : ℕ). Some (pos one)) (sym (eqb-true number n same)), rw same refl))
    (λ differs. inr (λ is. (let same : pos n ≡ pos number = one_item is in let equal : n ≡ number = cc in true≢false (sym (eq-eqb number n (sym equal)) ∙ differs)), rw differs refl))

-- a call adds a created process, or none
adds : (configuration : Configuration) (call : CallRecord) (asked : Request) (number : ℕ) → call.request ≡ asked
    → IsAdded configuration call number (item_at (created_by (first_core configuration call.who.part) call asked) number)
adds configuration call (Request.CreateProcess name priority period time_capacity) number is =
    let new : Process = new_process (first_core configuration call.who.part) name priority period time_capacity in
    by_test (λ more. IsAdded configuration call number (item_at more number)) (is_done call.claim.out) (numbered call.claim.val new) []
    (λ done. elim (numbered_is call.claim.val new number) [
      | inl here ↦ IsAdded.created name priority period time_capacity new is done here.0 here.1 (creation_is_the_sentence (first_core configuration call.who.part) name priority period time_capacity)
      | inr none ↦ IsAdded.not_created (λ name priority period time_capacity asks done. none.0) none.1
    ])
    (λ not_so. IsAdded.not_created (λ name priority period time_capacity asks done claims. true≢false (sym done ∙ not_so)) refl)
adds configuration call other number is = IsAdded.not_created (λ name priority period time_capacity asks done claims. (let no : other ≡ Request.CreateProcess name priority period time_capacity = sym is ∙ asks in cc)) refl

-- through a channel

-- a use that suits is there
suited_use : (configuration : Configuration) (number partition : ℕ) (found : Option Use) (channel : Channel) → suits_use configuration number partition found channel ≡ true
    → (how : Use) × (found ≡ Some how) × (suits configuration number partition how channel.content ≡ true)
suited_use configuration number partition None channel suited = impossible suited
suited_use configuration number partition (Some how) channel suited = (how, refl, suited)

goes_through : (configuration : Configuration) (state : State) (core : ℕ) (call : CallRecord) (conditions : List Condition) (channel : Option ℕ) (number : ℕ) (next : Channel) → SetsAreInOrder state
    → ClaimsOutcome configuration state core call.who call.request call.claim conditions channel
    → call.claim.chan ≡ Some number → next.content ≡ (channel_effect configuration (time_of state.cores core) number call.who.part (use_of call.request) (state.channels number)).next
    → GoesThrough configuration (time_of state.cores core) number call (state.channels number) next
goes_through configuration state core call conditions channel number next order has goes content =
    let now = time_of state.cores core in
    let through = through_claimed conditions channel _ _ _ call.claim number goes has in
    let how = suited_use configuration number call.who.part (use_of call.request) (state.channels number) through.kind in
    let effect : Effect Content = used configuration now number call.who.part how.0 (state.channels number) (state.channels number).content in
    let same : channel_effect configuration now number call.who.part (use_of call.request) (state.channels number) ≡ effect = ap (λ found. channel_effect configuration now number call.who.part found (state.channels number)) how.1 in
    let senders = order_is_apart state.count (state.channels number).senders (order.senders number) in
    let receivers = order_is_apart state.count (state.channels number).receivers (order.receivers number) in
    record {
      how = how.0;
      uses = how.1;
      effect = effect;
      rule = (channel_is_the_sentence configuration now number call.who.part (state.channels number) how.0 effect senders receivers how.2).0 refl;
      content = content ∙ ap (λ one. one.next) same;
      out = through.out ∙ ap (λ one. one.answer.out) same;
      values = subst (λ one. HasValues one.answer.val one.answer.val2 one.answer.val3 call.claim) same through.values;
      bytes = through.bytes ∙ ap (λ one. one.answer.bytes) same;
      woken = subst (λ one. NamesExactly one.answer.woken call.claim.woken) same through.woken;
    }

-- the whole

pub call_is_the_sentence : CallIsTheSentence
call_is_the_sentence configuration state ordered call next above tied order step is no_restart =
    let core = ordered.core in
    let place = ordered.pos in
    let now = time_of state.cores core in
    let part = call.who.part in
    let partition = state.partitions part in
    let table = partition.table in
    let period = period_of configuration part in
    let law = lawful_body configuration state ordered next (Call call) step is in
    let partitions = next_partition configuration state ordered next (Call call) step is in
    let channels = next_channel configuration state ordered next (Call call) step is in
    let change : ℕ → Process → Process = called place now period state.cores partition call in
    let more = created_by (first_core configuration part) call call.request in
    let chosen_more = handles_more partition call.who.proc call.request in
    let sets : ℕ → Process → Process = adjusted place period state.cores partition call in
    let own : next.partitions part ≡ partition_called configuration state.cores place core call partition =
    partitions part ∙ ap (λ test. cond test (own_partition (restart_of configuration call) configuration state.cores place core call partition) (record partition { table = woken_table place part (message_of call.request) call.claim.woken table })) (is_itself part)
    ∙ ap (λ one. own_partition one configuration state.cores place core call partition) (none_made configuration call no_restart) in
    let arrives : (number : ℕ) (old : Process) → item_at table number ≡ Some old → item_at (next.partitions part).table number ≡ Some (change number old) = λ number old at.
    ap (λ (one : Partition). item_at one.table number) own ∙ found_changed change table more number old at in
    let peer_at : (who : Who) → who.part ≡ part → who ≡ record { part = part; proc = who.proc } = λ who here. same_who who (record { part = part; proc = who.proc }) here refl in
    let old_at : (who : Who) (old : Process) → who.part ≡ part → process_in state who ≡ Some old → item_at table who.proc ≡ Some old = λ who old here at.
    subst (λ one. item_at (state.partitions one).table who.proc ≡ Some old) here at in
    let apart : (who : Who) → who.part ≡ part → ¬ (who ≡ call.who) → nat_eq who.proc call.who.proc ≡ false = λ who here differs.
    cannot_hold (nat_eq who.proc call.who.proc) (λ same. differs (same_who who call.who here (eqb-true who.proc call.who.proc same))) in
    let after_call : Who → Process → Process = λ who old. cond (stops call who) (stopped (sets who.proc old)) (woken_if_named place (message_of call.request) call.claim.woken who (sets who.proc old)) in
    let becomes : (who : Who) (old new : Process) → who.part ≡ part → ¬ (who ≡ call.who) → process_in state who ≡ Some old → after_call who old ≡ new → process_in next who ≡ Some new =
    λ who old new here differs at is. subst (λ one. item_at (next.partitions one).table who.proc ≡ Some new) (sym here) (arrives who.proc old (old_at who old here at)
    ∙ (let other = apart who here differs in rw other (ap Some (subst (λ one. after_call one old ≡ new) (peer_at who here) is)))) in
    let foreign : (number : ℕ) → ¬ (number ≡ part) → nat_eq part number ≡ false = λ number there. cannot_hold (nat_eq part number) (λ same. there (sym (eqb-true part number same))) in
    let wake_named : ℕ → ℕ → Process → Process = λ number other process. woken_if_named place (message_of call.request) call.claim.woken (record { part = number; proc = other }) process in
    let found_elsewhere : (who : Who) → ¬ (who.part ≡ part) → process_in next who ≡ item_at (each_item (wake_named who.part) (state.partitions who.part).table) who.proc = λ who there.
    ap (λ (one : Partition). item_at one.table who.proc) (partitions who.part)
    ∙ ap (λ test. item_at (cond test (own_partition (restart_of configuration call) configuration state.cores place core call (state.partitions who.part))
    (record (state.partitions who.part) { table = woken_table place who.part (message_of call.request) call.claim.woken (state.partitions who.part).table })).table who.proc) (foreign who.part there) in
    let caller = free_exists (process_in state call.who) law.due in
    record {
      caller = record {
        old = caller.0;
        new = caller_after place now chosen_more call (sets call.who.proc caller.0);
        before = caller.1;
        after = arrives call.who.proc caller.0 caller.1
            ∙ ap (λ test. Some (cond test (caller_after place now chosen_more call (sets call.who.proc caller.0))
            (cond (stops call (record { part = part; proc = call.who.proc })) (stopped (sets call.who.proc caller.0)) (woken_if_named place (message_of call.request) call.claim.woken (record { part = part; proc = call.who.proc }) (sets call.who.proc caller.0))))) (is_itself call.who.proc);
        change = record {
          set = sets call.who.proc caller.0;
          first = set_first configuration state place call call.who.proc caller.0 (above part);
          second = (caller_is_the_sentence place now partition call (sets call.who.proc caller.0) (caller_after place now chosen_more call (sets call.who.proc caller.0))
              (λ waits. begun configuration state core call law (sets call.who.proc caller.0) waits)).0 refl;
        };
      };
      stopped = λ who old here differs at stopping. record {
        old = old;
        new = stopped (sets who.proc old);
        before = at;
        after = becomes who old (stopped (sets who.proc old)) here differs at (rw stopping refl);
        change = record { set = sets who.proc old; first = set_first configuration state place call who.proc old (above part); second = refl };
      };
      woken = λ who old here differs at not_stopping named. record {
        old = old;
        new = woken_by place (message_of call.request) (sets who.proc old);
        before = at;
        after = becomes who old (woken_by place (message_of call.request) (sets who.proc old)) here differs at (rw (not_stopping, named) refl);
        change = record {
          set = sets who.proc old;
          first = set_first configuration state place call who.proc old (above part);
          second = (waking_is_the_sentence place (message_of call.request) (sets who.proc old) (woken_by place (message_of call.request) (sets who.proc old))
              (named_keeps configuration state place core call law who named who.proc old
              (named_waits configuration state core call.who call.request call.claim tied _ _ law.outcome who named old at))).0 refl;
        };
      };
      peers = λ who old here differs at not_stopping not_named. record {
        old = old;
        new = sets who.proc old;
        before = at;
        after = becomes who old (sets who.proc old) here differs at (rw (not_stopping, not_named) refl);
        change = record { set = sets who.proc old; first = set_first configuration state place call who.proc old (above part); second = refl };
      };
      woken_elsewhere = λ who old there at named. record {
        old = old;
        new = woken_by place (message_of call.request) old;
        before = at;
        after = found_elsewhere who there ∙ turns_each (wake_named who.part) (state.partitions who.part).table who.proc old at
            ∙ ap (λ test. Some (cond test (woken_by place (message_of call.request) old) old)) named;
        change = (waking_is_the_sentence place (message_of call.request) old (woken_by place (message_of call.request) old)
            (named_waits configuration state core call.who call.request call.claim tied _ _ law.outcome who named old at)).0 refl;
      };
      added = λ number none.
          let is_added = adds configuration call call.request number refl in
          let not_among : item_at (each_item change table) number ≡ None = at_each change table number ∙ ap (option_map (change number)) none in
          subst (IsAdded configuration call number) (sym (ap (λ (one : Partition). item_at one.table number) own ∙ found_after (each_item change table) more number not_among)) is_added;
      elsewhere = λ who there not_named. found_elsewhere who there
          ∙ stays_each (wake_named who.part) (state.partitions who.part).table who.proc (λ one at. ap (λ test. cond test (woken_by place (message_of call.request) one) one) not_named);
      mode = ap (λ (one : Partition). one.mode) own;
      handler = (
        λ done. subst (IsHandlerAfter configuration part call.request partition.handler) (sym (ap (λ (one : Partition). one.handler) own
            ∙ ap (λ test. cond test (handler_by configuration part call.request partition.handler) partition.handler) done)) (handler_says configuration part call.request partition.handler),
        λ not_so. ap (λ (one : Partition). one.handler) own ∙ ap (λ test. cond test (handler_by configuration part call.request partition.handler) partition.handler) not_so,
      );
      errors = (
        λ done. subst (IsListAfter call.who.proc call.request partition) (sym (ap (λ (one : Partition). one.errors) own
            ∙ ap (λ test. cond test (errors_by call.who.proc call.request partition) partition.errors) done)) (list_says call.who.proc call.request partition),
        λ not_so. ap (λ (one : Partition). one.errors) own ∙ ap (λ test. cond test (errors_by call.who.proc call.request partition) partition.errors) not_so,
      );
      lock = lock_says place call partition.lock (next.partitions part).lock (order_is_apart state.count partition.lock.waiters (order.locks part)) (ap (λ (one : Partition). one.lock) own);
      objects = (
        λ done. subst (λ one. ObjectsAre one (objects_by configuration call.who call.claim.val call.request partition)) (sym own)
            (objects_are configuration state.cores place core call partition (objects_by configuration call.who call.claim.val call.request partition) (rw done refl)),
        λ not_so. subst (λ one. ObjectsAre one partition) (sym own) (objects_are configuration state.cores place core call partition partition (rw not_so refl)),
      );
      other_partitions = λ number there. foreign_rest configuration place core call state next number (partitions number) (foreign number there);
      senders = λ number. set_says place call (channel_set number Senders) (state.channels number).senders (next.channels number).senders (ap (λ one. one.senders) (channels number));
      receivers = λ number. set_says place call (channel_set number Receivers) (state.channels number).receivers (next.channels number).receivers (ap (λ one. one.receivers) (channels number));
      through = λ number goes. goes_through configuration state core call _ _ number (next.channels number) order law.outcome goes
          (ap (λ one. one.content) (channels number)
          ∙ ap (λ test. cond test (channel_effect configuration now number call.who.part (use_of call.request) (state.channels number)).next (state.channels number).content) (ap (is_channel number) goes ∙ is_itself number));
      contents = λ number differs. ap (λ one. one.content) (channels number)
          ∙ ap (λ test. cond test (channel_effect configuration now number call.who.part (use_of call.request) (state.channels number)).next (state.channels number).content)
          (cannot_hold (is_channel number call.claim.chan) (λ goes. differs (goes_to number call.claim.chan goes)));
      cores = next_cores configuration state ordered next (Call call) step is;
    }
