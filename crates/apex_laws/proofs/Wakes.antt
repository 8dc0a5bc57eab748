-- Where a caller waits, and which processes a call wakes.
use Rattle.std.proofs.Common.{◌≡◌, ℕ, zero, suc, List, [], ◌∷◌, length, Bool, true, false, cond, nat_eq, nat_lt, ℤ, pos, negsuc, Option, Some, None, refl, sym, ap, subst, ◌∙◌, true≢false, IsTrue, ◌+◌, ◌&&◌, ◌||◌, option_map}
use Rattle.std.proofs.lemmas.Bool.{and_parts}
use Rattle.std.specs.Option.{option_to_list}
use Rattle.apex_types.specs.declared.operation.ObjectOperation.TheVariants as on
use Rattle.apex_laws.proofs.Common.{AllEntries, Answer, AreTied, Ask, BlackboardOperation, BufferOperation, CallerOperation, CallRecord, Channel, Claim, Code, Condition, Configuration, Content, Effect, End}
use Rattle.apex_laws.proofs.Common.{EnteringIsTheSentence, Entry, EventOperation, HasOutcome, HasTimeOut, IsTied, Messages, Mutex, MutexOperation, ObjectOf, ObjectOperation, Out, Outcome, Partition, Process, ProcessOperation, Queued}
use Rattle.apex_laws.proofs.Common.{QueuingOperation, Read, Receive, Receivers, Request, Sampled, SemaphoreOperation, Send, Senders, Stamped, State, Table, TimeOutIsTheSentence, Use, Wait, WaitingSet, WaitsIn, Who, Write}
use Rattle.apex_laws.proofs.Common.{acquired_again, acquired_from, answer_by, answer_of, answering, appended, at_maximum, board_read, caller_after, caller_with, capacity_of, channel_answer, channel_effect, channel_set, code_when_due}
use Rattle.apex_laws.proofs.Common.{created, done, due_by, due_of_call, due_time, entries_at, entries_at_end, entries_in, entries_of, event_waited, falls_due, first_waiter, given_object, handed_on, is_in, is_named, is_no_error, is_over}
use Rattle.apex_laws.proofs.Common.{is_receiver, is_released, is_sender, is_set_used, is_suspension, is_the_set, is_waiting, item_at, kind_used, mutex_released, natural_of, not_acquired, not_yet, object_effect, objects_of, outcome_by, peer}
use Rattle.apex_laws.proofs.Common.{raised, reading_of, received, receiving_discipline, refresh_of, released_once, resuming, semaphore_waited, sending_discipline, sent, service_at, service_of, service_of_wait, set_at, set_of, signalled}
use Rattle.apex_laws.proofs.Common.{suits_use, time_out_of, unmet, use_of, used, wait_of, waiting, waits_at, waking}
use Rattle.apex_laws.proofs.Common.{Clear, CoreState, Crossing, Discipline, IsLawfulArrival, IsLawfulDeparture, arrival_use, emptied_queue, first_waiters, process_status, time_of}
use Rattle.apex_laws.proofs.Common.{EnteringLockIsTheSentence, IsTiedToLock, Lock, LockIsAwaitedForever, LockOperation, first_for_lock, freed_by_stop, given_up, is_done, is_for_lock, is_of_lock, is_owner, lock_effect, locked_again, locked_from, next_owner, not_locked, stops_one, unlocked_once, waits_for_lock}
use Rattle.apex_laws.proofs.Waiters.{firsts_have}
use Rattle.apex_laws.proofs.Common.{HealthOperation, ListedError, health_answer, never, oldest_reported, restarts_by_error}
use Rattle.apex_laws.proofs.Booleans.{by_test, impossible, is_itself, never_found, not_second, one_item}
use Rattle.apex_laws.proofs.ConditionTests.{at_most_tells, equal_tells, Tells, tells_both}
use Rattle.apex_laws.proofs.Objects.{of_objects}
use Rattle.apex_laws.proofs.SetNames.{found_set, off_channel, one_set, set_itself}
use Rattle.apex_laws.proofs.Waiters.{all_named, all_weaker, first_has, only_named}

-- Which processes a call wakes: those in a waiting set, or those that suspended themselves.

-- the empty list names no process
pub nobody : {Fact : Type 0} (one : Who) (woken : List Who) → woken ≡ [] → is_named one woken ≡ true → Fact
nobody {Fact} one woken none named = absurd (true≢false (sym named ∙ ap (is_named one) none))

-- a call that is unmet wakes no process
pub unmet_wakes : (time_out : ℤ) → (unmet time_out).woken ≡ []
unmet_wakes time_out = by_test (λ (answer : Answer). answer.woken ≡ []) (is_over time_out) (answering Code.NotAvailable) waiting (λ over. refl) (λ later. refl)

-- what an answer wakes: processes with a fact alone, and none unless it is NO_ERROR
pub record Wakes (Fact : Who → Type 0) (answer : Answer) : Type 0 where
  pub has : (one : Who) → is_named one answer.woken ≡ true → Fact one
  pub quiet : is_no_error answer.out ≡ false → answer.woken ≡ []

wakes_none : {Fact : Who → Type 0} {answer : Answer} → answer.woken ≡ [] → Wakes Fact answer
wakes_none {answer = answer} none = record { has = λ one named. nobody one answer.woken none named; quiet = λ off. none }

wakes_some : {Fact : Who → Type 0} {answer : Answer} → is_no_error answer.out ≡ true → ((one : Who) → is_named one answer.woken ≡ true → Fact one) → Wakes Fact answer
wakes_some no_error has = record { has = has; quiet = λ off. absurd (true≢false (sym no_error ∙ off)) }

-- queues

-- a send wakes the first of the receivers
sent_wakes : (Fact : Who → Type 0) (capacity : ℕ) (message : List ℕ) (time_out : ℤ) (first : Option Entry) (messages : Messages)
    → ((entry : Entry) → first ≡ Some entry → Fact entry.who) → Wakes Fact (sent capacity message time_out first messages).answer
sent_wakes Fact capacity message time_out (Some entry) messages has = wakes_some refl (λ one. only_named Fact entry.who one (has entry refl))
sent_wakes Fact capacity message time_out None messages has =
    by_test (λ (effect : Effect Messages). Wakes Fact effect.answer) (nat_lt (length messages) capacity) (appended message messages) (not_yet time_out messages)
    (λ room. wakes_none refl) (λ full. wakes_none (unmet_wakes time_out))

-- a receive wakes the first of the senders
received_wakes : (Fact : Who → Type 0) (time_out : ℤ) (first : Option Entry) (messages : Messages)
    → ((entry : Entry) → first ≡ Some entry → Fact entry.who) → Wakes Fact (received time_out first messages).answer
received_wakes Fact time_out first [] has = wakes_none (unmet_wakes time_out)
received_wakes Fact time_out None (message ∷ others) has = wakes_none refl
received_wakes Fact time_out (Some entry) (message ∷ others) has = wakes_some refl (λ one. only_named Fact entry.who one (has entry refl))

-- a queue that is emptied wakes the first of the senders
emptied_wakes : (Fact : Who → Type 0) (discipline : Discipline) (capacity : ℕ) (senders : List Entry) → AllEntries (λ entry. Fact entry.who) senders
    → Wakes Fact (emptied_queue (first_waiters discipline capacity senders)).answer
emptied_wakes Fact discipline capacity senders all =
    wakes_some refl (all_named Fact (first_waiters discipline capacity senders) (firsts_have (λ entry. Fact entry.who) discipline capacity senders all))

-- the objects of a partition

-- the entries of an object that is found
pub given_entries : {Object : Type 0} (Holds : List Entry → Type 0) (entries_of : Object → List Entry) (objects : List (ℕ × Object)) (given : ℤ) (found : Object) → given_object objects given ≡ Some found
    → Holds (entries_in entries_of (item_at objects (natural_of given))) → Holds (entries_of found)
given_entries Holds entries_of objects (pos number) found at holds = subst (λ one. Holds (entries_in entries_of one)) at holds
given_entries Holds entries_of objects (negsuc n) found at holds = never_found at

-- an answer of an object wakes the processes that the object found wakes
by_object : {Object : Type 0} (Fact : Who → Type 0) (found : Option Object) (gives : Object → Answer) → ((object : Object) → found ≡ Some object → Wakes Fact (gives object)) → Wakes Fact (answer_by found gives)
by_object Fact None gives has = wakes_none refl
by_object Fact (Some object) gives has = has object refl

signal_wakes : (Fact : Who → Type 0) (maximum : ℕ) (first : Option Entry) (value : ℕ) → ((entry : Entry) → first ≡ Some entry → Fact entry.who) → Wakes Fact (signalled maximum first value).answer
signal_wakes Fact maximum (Some entry) value has = wakes_some refl (λ one. only_named Fact entry.who one (has entry refl))
signal_wakes Fact maximum None value has =
    by_test (λ (effect : Effect ℕ). Wakes Fact effect.answer) (nat_lt value maximum) (raised value) (at_maximum value) (λ below. wakes_none refl) (λ full. wakes_none refl)

hand_on_wakes : (Fact : Who → Type 0) (first : Option Entry) (mutex : Mutex) → ((entry : Entry) → first ≡ Some entry → Fact entry.who) → Wakes Fact (handed_on first mutex).answer
hand_on_wakes Fact (Some entry) mutex has = wakes_some refl (λ one. only_named Fact entry.who one (has entry refl))
hand_on_wakes Fact None mutex has = wakes_none refl

release_wakes : (Fact : Who → Type 0) (first : Option Entry) (mutex : Mutex) → ((entry : Entry) → first ≡ Some entry → Fact entry.who) → Wakes Fact (mutex_released first mutex).answer
release_wakes Fact first mutex has =
    by_test (λ (effect : Effect Mutex). Wakes Fact effect.answer) (nat_lt 1 mutex.count) (released_once mutex) (handed_on first mutex)
    (λ more. wakes_none refl) (λ last. hand_on_wakes Fact first mutex has)

-- these wake no process
wait_wakes : (time_out : ℤ) (value : ℕ) → (semaphore_waited time_out value).answer.woken ≡ []
wait_wakes time_out zero = unmet_wakes time_out
wait_wakes time_out (suc value) = refl

board_wakes : (time_out : ℤ) (message : Option (List ℕ)) → (board_read time_out message).answer.woken ≡ []
board_wakes time_out None = unmet_wakes time_out
board_wakes time_out (Some message) = refl

event_wakes : (time_out : ℤ) (up : Bool) → (event_waited time_out up).answer.woken ≡ []
event_wakes time_out true = refl
event_wakes time_out false = unmet_wakes time_out

acquire_wakes : (caller : ℕ) (time_out : ℤ) (mutex : Mutex) (owner : Option ℕ) → (acquired_from owner caller time_out mutex).answer.woken ≡ []
acquire_wakes caller time_out mutex None = refl
acquire_wakes caller time_out mutex (Some owner) =
    by_test (λ (effect : Effect Mutex). effect.answer.woken ≡ []) (nat_eq owner caller) (acquired_again mutex) (not_acquired time_out mutex) (λ own. refl) (λ other. unmet_wakes time_out)

done_or_waiting : (over : Bool) → (cond over done waiting).woken ≡ []
done_or_waiting true = refl
done_or_waiting false = refl

-- RESUME wakes its target, if that suspended itself
resume_wakes : (Fact : Who → Type 0) (target : Who) (found : Option Process) → ((process : Process) → found ≡ Some process → is_suspension process.wait ≡ true → Fact target) → Wakes Fact (resuming target found)
resume_wakes Fact target None has = wakes_none refl
resume_wakes Fact target (Some process) has =
    by_test (Wakes Fact) (is_suspension process.wait) (waking (target ∷ [])) done
    (λ suspends. wakes_some refl (λ one. only_named Fact target one (has process refl suspends))) (λ not_suspended. wakes_none refl)

-- an operation on an object wakes processes in a waiting set of the object that it uses
operation_wakes : (Fact : Who → Type 0) (caller : ℕ) (number : ℤ) (operation : ObjectOperation) (found : ObjectOf (kind_used operation))
    → ((end : End) → is_set_used (Request.Object number operation) (set_at (kind_used operation) (natural_of number) end) ≡ true → AllEntries (λ entry. Fact entry.who) (entries_at_end (kind_used operation) end found))
    → Wakes Fact (object_effect caller operation found).answer
operation_wakes Fact caller number (on.Buffer (BufferOperation.Send length time_out message)) found all =
    sent_wakes Fact found.capacity message time_out (first_waiter found.discipline found.receivers) found.messages
    (λ entry. first_has (λ entry. Fact entry.who) found.discipline found.receivers entry (all Receivers (is_itself (natural_of number))))
operation_wakes Fact caller number (on.Buffer (BufferOperation.Receive time_out)) found all =
    received_wakes Fact time_out (first_waiter found.discipline found.senders) found.messages
    (λ entry. first_has (λ entry. Fact entry.who) found.discipline found.senders entry (all Senders (is_itself (natural_of number))))
operation_wakes Fact caller number (on.Blackboard (BlackboardOperation.Display length message)) found all = wakes_some refl (all_named Fact found.readers (all Receivers (is_itself (natural_of number))))
operation_wakes Fact caller number (on.Blackboard (BlackboardOperation.Read time_out)) found all = wakes_none (board_wakes time_out found.message)
operation_wakes Fact caller number (on.Blackboard BlackboardOperation.Clear) found all = wakes_none refl
operation_wakes Fact caller number (on.Semaphore (SemaphoreOperation.Wait time_out)) found all = wakes_none (wait_wakes time_out found.value)
operation_wakes Fact caller number (on.Semaphore SemaphoreOperation.Signal) found all =
    signal_wakes Fact found.maximum (first_waiter found.discipline found.waiters) found.value
    (λ entry. first_has (λ entry. Fact entry.who) found.discipline found.waiters entry (all Receivers (is_itself (natural_of number))))
operation_wakes Fact caller number (on.Event EventOperation.Set) found all = wakes_some refl (all_named Fact found.waiters (all Receivers (is_itself (natural_of number))))
operation_wakes Fact caller number (on.Event EventOperation.Reset) found all = wakes_none refl
operation_wakes Fact caller number (on.Event (EventOperation.Wait time_out)) found all = wakes_none (event_wakes time_out found.up)
operation_wakes Fact caller number (on.Mutex (MutexOperation.Acquire time_out)) found all = wakes_none (acquire_wakes caller time_out found found.owner)
operation_wakes Fact caller number (on.Mutex MutexOperation.Release) found all =
    release_wakes Fact (first_waiter found.discipline found.waiters) found
    (λ entry. first_has (λ entry. Fact entry.who) found.discipline found.waiters entry (all Receivers (is_itself (natural_of number))))
operation_wakes Fact caller number (on.Mutex (MutexOperation.Reset process)) found all =
    hand_on_wakes Fact (first_waiter found.discipline found.waiters) found
    (λ entry. first_has (λ entry. Fact entry.who) found.discipline found.waiters entry (all Receivers (is_itself (natural_of number))))

-- the lock

-- who gives the lock up wakes the first that waits for it
next_wakes : (Fact : Who → Type 0) (lock : Lock) → AllEntries (λ entry. Fact entry.who) lock.waiters → (one : Who) → is_named one (next_owner lock) ≡ true → Fact one
next_wakes Fact lock all one named = by (first_for_lock lock) refl named
  where
    by : (first : Option Entry) → first_for_lock lock ≡ first → is_named one (option_to_list (option_map (λ entry. entry.who) first)) ≡ true → Fact one
    by None none named = nobody one [] refl named
    by (Some entry) first named = only_named Fact entry.who one (first_has (λ entry. Fact entry.who) Discipline.Priority lock.waiters entry all first) named

-- so does a stop of the owner
pub freed_wakes : (Fact : Who → Type 0) (process : ℕ) (lock : Lock) → AllEntries (λ entry. Fact entry.who) lock.waiters
    → (one : Who) → is_named one (freed_by_stop process lock) ≡ true → Fact one
freed_wakes Fact process lock all one =
    by_test (λ woken. is_named one woken ≡ true → Fact one) (is_owner lock.owner process) (next_owner lock) []
    (λ owns named. next_wakes Fact lock all one named) (λ owns_not named. nobody one [] refl named)

locked_wakes : (caller : ℕ) (lock : Lock) (owner : Option ℕ) → (locked_from owner caller lock).answer.woken ≡ []
locked_wakes caller lock None = refl
locked_wakes caller lock (Some owner) =
    by_test (λ (effect : Effect Lock). effect.answer.woken ≡ []) (nat_eq owner caller) (locked_again lock) (not_locked lock) (λ own. refl) (λ other. refl)

lock_wakes : (Fact : Who → Type 0) (caller : ℕ) (operation : LockOperation) (lock : Lock) → AllEntries (λ entry. Fact entry.who) lock.waiters
    → Wakes Fact (lock_effect caller operation lock).answer
lock_wakes Fact caller LockOperation.Lock lock all = wakes_none (locked_wakes caller lock lock.owner)
lock_wakes Fact caller LockOperation.Unlock lock all =
    by_test (λ (effect : Effect Lock). Wakes Fact effect.answer) (nat_lt 1 lock.level) (unlocked_once lock) (given_up lock)
    (λ more. wakes_none refl) (λ last. wakes_some refl (next_wakes Fact lock all))

-- services

-- whether a service can give up the lock
abbrev pub gives_lock_up : Request → Bool
gives_lock_up asked = is_of_lock asked || stops_one asked

-- any service but STOP_SELF, whose answer alone names a process and is not NO_ERROR
abbrev NoStopSelf : Request → Type 0
NoStopSelf (Request.Caller CallerOperation.StopSelf) = ⊥
NoStopSelf _ = Unit {0}

-- health monitoring wakes no process
pub health_woken : (configuration : Configuration) (number : ℕ) (partition : Partition) (caller : ℕ) (operation : HealthOperation)
    → (health_answer configuration number partition caller operation).woken ≡ []
health_woken configuration number partition caller (HealthOperation.RaiseError error length message) =
    by_test (λ (answer : Answer). answer.woken ≡ []) (restarts_by_error configuration number partition caller) never done (λ restarts. refl) (λ goes_on. refl)
health_woken configuration number partition caller HealthOperation.GetErrorStatus = by partition.errors
  where
    by : (errors : List ListedError) → (oldest_reported errors).woken ≡ []
    by [] = refl
    by (error ∷ errors) = refl
health_woken configuration number partition caller _ = refl

-- a service that uses no channel wakes processes in a waiting set that it uses, processes that suspended themselves, or one that waits for
-- the lock
service_wakes : (Fact : Who → Type 0) (configuration : Configuration) (cores : List CoreState) (core : ℕ) (who : Who) (partition : Partition) (asked : Request)
    → ((wanted : WaitingSet) → is_set_used asked wanted ≡ true → AllEntries (λ entry. Fact entry.who) (entries_at partition wanted))
    → ((process : ℤ) (target : Process) → created partition.table process ≡ Some target → is_suspension target.wait ≡ true → Fact (peer who process))
    → (gives_lock_up asked ≡ true → AllEntries (λ entry. Fact entry.who) partition.lock.waiters) → NoStopSelf asked
    → Wakes Fact (answer_of configuration cores core who partition asked)
service_wakes Fact configuration cores core who partition (Request.Object number operation) all suspended lock other =
    let objects = objects_of partition (kind_used operation) in
    by_object Fact (given_object objects number) (λ found. (object_effect who.proc operation found).answer)
    (λ found is. operation_wakes Fact who.proc number operation found (λ end used. given_entries (AllEntries (λ entry. Fact entry.who)) (entries_at_end (kind_used operation) end) objects number found is
    (all (set_at (kind_used operation) (natural_of number) end) used)))
service_wakes Fact configuration cores core who partition (Request.Process process ProcessOperation.Resume) all suspended lock other =
    resume_wakes Fact (peer who process) (created partition.table process) (suspended process)
service_wakes Fact configuration cores core who partition (Request.Process process ProcessOperation.GetStatus) all suspended lock other =
    by_object Fact (created partition.table process) (process_status cores (peer who process)) (λ target is. wakes_none refl)
service_wakes Fact configuration cores core who partition (Request.Caller (CallerOperation.SuspendSelf time_out)) all suspended lock other = wakes_none (done_or_waiting (is_over time_out))
service_wakes Fact configuration cores core who partition (Request.Caller (CallerOperation.TimedWait delay)) all suspended lock other = wakes_none (done_or_waiting (is_over delay))
service_wakes Fact configuration cores core who partition (Request.Caller CallerOperation.PeriodicWait) all suspended lock other = wakes_none (done_or_waiting (is_released (time_of cores core) (item_at partition.table who.proc)))
service_wakes Fact configuration cores core who partition (Request.Process process ProcessOperation.Stop) all suspended lock other =
    wakes_some refl (freed_wakes Fact (natural_of process) partition.lock (lock refl))
service_wakes Fact configuration cores core who partition (Request.Preemption operation) all suspended lock other = lock_wakes Fact who.proc operation partition.lock (lock refl)
service_wakes Fact configuration cores core who partition (Request.Health operation) all suspended lock other =
    wakes_none (health_woken configuration who.part partition who.proc operation)
service_wakes Fact configuration cores core who partition (Request.Caller CallerOperation.StopSelf) all suspended lock other = absurd other
service_wakes Fact configuration cores core who partition _ all suspended lock other = wakes_none refl

pub answer_wakes : (Fact : Who → Type 0) (configuration : Configuration) (cores : List CoreState) (core : ℕ) (who : Who) (partition : Partition) (asked : Request)
    → ((wanted : WaitingSet) → is_set_used asked wanted ≡ true → AllEntries (λ entry. Fact entry.who) (entries_at partition wanted))
    → ((process : ℤ) (target : Process) → created partition.table process ≡ Some target → is_suspension target.wait ≡ true → Fact (peer who process))
    → (gives_lock_up asked ≡ true → AllEntries (λ entry. Fact entry.who) partition.lock.waiters)
    → (one : Who) → is_named one (answer_of configuration cores core who partition asked).woken ≡ true → Fact one
answer_wakes Fact configuration cores core who partition (Request.Caller CallerOperation.StopSelf) all suspended lock = freed_wakes Fact who.proc partition.lock (lock refl)
answer_wakes Fact configuration cores core who partition (Request.Caller operation) all suspended lock =
    (service_wakes Fact configuration cores core who partition (Request.Caller operation) all suspended lock tt).has
answer_wakes Fact configuration cores core who partition asked all suspended lock = (service_wakes Fact configuration cores core who partition asked all suspended lock tt).has

-- so an answer that is not NO_ERROR names no process but one that waits for the lock, and that only if it does not return
service_quiet : (configuration : Configuration) (cores : List CoreState) (core : ℕ) (who : Who) (partition : Partition) (asked : Request) → NoStopSelf asked
    → is_no_error (answer_of configuration cores core who partition asked).out ≡ false → (answer_of configuration cores core who partition asked).woken ≡ []
service_quiet configuration cores core who partition asked other =
    (service_wakes (λ one. Unit {0}) configuration cores core who partition asked (λ wanted used. any (entries_at partition wanted)) (λ process target is suspends. tt) (λ gives. any partition.lock.waiters) other).quiet
  where
    any : (entries : List Entry) → AllEntries (λ entry. Unit {0}) entries
    any [] = tt
    any (entry ∷ entries) = (tt, any entries)

pub answer_quiet : (Fact : Who → Type 0) (configuration : Configuration) (cores : List CoreState) (core : ℕ) (who : Who) (partition : Partition) (asked : Request) → AllEntries (λ entry. Fact entry.who) partition.lock.waiters
    → is_no_error (answer_of configuration cores core who partition asked).out ≡ false → (one : Who) → is_named one (answer_of configuration cores core who partition asked).woken ≡ true → Fact one
answer_quiet Fact configuration cores core who partition (Request.Caller CallerOperation.StopSelf) lock off one named = freed_wakes Fact who.proc partition.lock lock one named
answer_quiet Fact configuration cores core who partition (Request.Caller operation) lock off one named = nobody one _ (service_quiet configuration cores core who partition (Request.Caller operation) tt off) named
answer_quiet Fact configuration cores core who partition asked lock off one named = nobody one _ (service_quiet configuration cores core who partition asked tt off) named

pub answer_silent : (configuration : Configuration) (cores : List CoreState) (core : ℕ) (who : Who) (partition : Partition) (asked : Request) → is_no_error (answer_of configuration cores core who partition asked).out ≡ false
    → is_done (answer_of configuration cores core who partition asked).out ≡ false → (answer_of configuration cores core who partition asked).woken ≡ []
answer_silent configuration cores core who partition (Request.Caller CallerOperation.StopSelf) off not_done = absurd (true≢false not_done)
answer_silent configuration cores core who partition (Request.Caller operation) off not_done = service_quiet configuration cores core who partition (Request.Caller operation) tt off
answer_silent configuration cores core who partition asked off not_done = service_quiet configuration cores core who partition asked tt off

-- channels

-- a read wakes no process
read_wakes : (now refresh : ℕ) (last : Option Stamped) → (reading_of now refresh last).woken ≡ []
read_wakes now refresh None = refl
read_wakes now refresh (Some last) = refl

-- the waiting set of a channel whose first a use can wake: a send the first of those who receive, a receive of those who send, and so the
-- first ones when the channel is cleared
abbrev pub woken_from : Use → Channel → List Entry
woken_from (Send message time_out) channel = channel.receivers
woken_from (Receive time_out) channel = channel.senders
woken_from Clear channel = channel.senders
woken_from _ channel = []

-- what each use of a channel wakes
pub use_wakes : (Fact : Who → Type 0) (configuration : Configuration) (now number partition : ℕ) (how : Use) (channel : Channel) (content : Content)
    → AllEntries (λ entry. Fact entry.who) (woken_from how channel)
    → (one : Who) → is_named one (used configuration now number partition how channel content).answer.woken ≡ true → Fact one
use_wakes Fact configuration now number partition Read channel (Sampled last) all one named =
    nobody one (reading_of now (refresh_of configuration number) last).woken (read_wakes now (refresh_of configuration number) last) named
use_wakes Fact configuration now number partition (Send message time_out) channel (Queued messages) all one named =
    (sent_wakes Fact (capacity_of configuration number) message time_out (first_waiter (receiving_discipline configuration number) channel.receivers) messages
    (λ entry. first_has (λ entry. Fact entry.who) (receiving_discipline configuration number) channel.receivers entry all)).has one named
use_wakes Fact configuration now number partition (Receive time_out) channel (Queued messages) all one named =
    (received_wakes Fact time_out (first_waiter (sending_discipline configuration number) channel.senders) messages
    (λ entry. first_has (λ entry. Fact entry.who) (sending_discipline configuration number) channel.senders entry all)).has one named
use_wakes Fact configuration now number partition Clear channel (Queued messages) all one named =
    (emptied_wakes Fact (sending_discipline configuration number) (capacity_of configuration number) channel.senders all).has one named
use_wakes Fact configuration now number partition (Write message) channel (Sampled last) all one named = nobody one [] refl named
use_wakes Fact configuration now number partition Ask channel (Queued messages) all one named = nobody one [] refl named
use_wakes Fact configuration now number partition _ channel _ all one named = nobody one [] refl named

-- a call through a channel wakes processes in its waiting sets
pub channel_wakes : (Fact : Who → Type 0) (configuration : Configuration) (now number partition : ℕ) (how : Option Use) (channel : Channel)
    → AllEntries (λ entry. Fact entry.who) channel.receivers → AllEntries (λ entry. Fact entry.who) channel.senders
    → (one : Who) → is_named one (channel_effect configuration now number partition how channel).answer.woken ≡ true → Fact one
channel_wakes Fact configuration now number partition None channel receivers senders one named = nobody one [] refl named
channel_wakes Fact configuration now number partition (Some how) channel receivers senders one named =
    use_wakes Fact configuration now number partition how channel channel.content (by how) one named
  where
    by : (how : Use) → AllEntries (λ entry. Fact entry.who) (woken_from how channel)
    by (Send message time_out) = receivers
    by (Receive time_out) = senders
    by Clear = senders
    by _ = tt

-- Whom a lawful call wakes, in a tied state: through a channel those who wait there, else processes of its own partition that
-- wait at no channel.

-- a process by its partition and number
abbrev pub found : (ℕ → Partition) → Who → Option Process
found partitions who = item_at (partitions who.part).table who.proc

-- a channel's waiting set isn't one of this partition, and who waits there is woken through that channel alone
pub record IsWokenBy (partitions : ℕ → Partition) (number : ℕ) (chan : Option ℕ) (who : Who) : Type 0 where
  pub own : chan ≡ None → who.part ≡ number
  pub sending : (channel : ℕ) → waits_at (channel_set channel Senders) (found partitions who) ≡ true → chan ≡ Some channel
  pub receiving : (channel : ℕ) → waits_at (channel_set channel Receivers) (found partitions who) ≡ true → chan ≡ Some channel

-- a process in a waiting set of a partition waits at no channel
own_waiter : (partitions : ℕ → Partition) (number : ℕ) (wanted : WaitingSet) (chan : Option ℕ) → AllEntries (IsTied (λ home. home ≡ number) wanted partitions) (entries_at (partitions number) wanted)
    → AllEntries (λ entry. IsWokenBy partitions number chan entry.who) (entries_at (partitions number) wanted)
own_waiter partitions number wanted chan all =
    of_objects (λ entry. IsWokenBy partitions number chan entry.who) (partitions number) wanted (λ off. all_weaker (IsTied (λ home. home ≡ number) wanted partitions) _ (λ entry tied. record {
      own = λ none. tied.0;
      sending = λ channel also. absurd (true≢false (off_channel wanted (channel_set channel Senders) (found partitions entry.who) off tied.1 also));
      receiving = λ channel also. absurd (true≢false (off_channel wanted (channel_set channel Receivers) (found partitions entry.who) off tied.1 also));
    }) (entries_at (partitions number) wanted) all)

-- who waits for the lock waits in no set
pub lock_waits_not : (wanted : WaitingSet) (found : Option Process) → waits_for_lock found ≡ true → waits_at wanted found ≡ true → ⊥
lock_waits_not wanted None waits also = true≢false (sym waits)
lock_waits_not wanted (Some process) waits also = by process.wait (and_parts process.alive (is_for_lock process.wait) waits).1 (and_parts process.alive (is_in wanted process.wait) also).1
  where
    by : (one : Wait) → is_for_lock one ≡ true → is_in wanted one ≡ true → ⊥
    by Wait.ForLock for_lock in_set = true≢false (sym in_set)
    by _ for_lock in_set = true≢false (sym for_lock)

-- a process with an entry in the set of a lock waits for it
pub lock_awaited : (partitions : ℕ → Partition) (number : ℕ) (entry : Entry) → IsTiedToLock number partitions entry → waits_for_lock (found partitions entry.who) ≡ true
lock_awaited partitions number entry tied = subst (λ part. waits_for_lock (item_at (partitions part).table entry.who.proc) ≡ true) (sym tied.0) tied.1

-- so it waits at no channel
lock_waiter : (partitions : ℕ → Partition) (number : ℕ) (chan : Option ℕ) → AllEntries (IsTiedToLock number partitions) (partitions number).lock.waiters
    → AllEntries (λ entry. IsWokenBy partitions number chan entry.who) (partitions number).lock.waiters
lock_waiter partitions number chan all =
    all_weaker (IsTiedToLock number partitions) (λ entry. IsWokenBy partitions number chan entry.who) (λ entry tied. record {
      own = λ none. tied.0;
      sending = λ channel also. absurd (lock_waits_not (channel_set channel Senders) (found partitions entry.who) (lock_awaited partitions number entry tied) also);
      receiving = λ channel also. absurd (lock_waits_not (channel_set channel Receivers) (found partitions entry.who) (lock_awaited partitions number entry tied) also);
    }) (partitions number).lock.waiters all

-- a created process is found under its number
pub created_is : (table : Table) (process : ℤ) (target : Process) → created table process ≡ Some target → (number : ℕ) × (process ≡ pos number) × (item_at table number ≡ Some target)
created_is table (pos zero) target is = cc
created_is table (pos (suc number)) target is = (suc number, refl, is)
created_is table (negsuc n) target is = cc

-- who suspended itself waits in no set
suspended_waits_not : (wanted : WaitingSet) (one : Wait) → is_suspension one ≡ true → is_in wanted one ≡ true → ⊥
suspended_waits_not wanted (Wait.Suspended due) suspends waits = true≢false (sym waits)
suspended_waits_not wanted _ suspends waits = true≢false (sym suspends)

-- so it is with a created process
pub suspended_elsewhere : (partition : Partition) (process : ℤ) (target : Process) (wanted : WaitingSet) → created partition.table process ≡ Some target → is_suspension target.wait ≡ true
    → waits_at wanted (item_at partition.table (natural_of process)) ≡ true → ⊥
suspended_elsewhere partition process target wanted is suspends waits =
    let at = created_is partition.table process target is in
    let number : natural_of process ≡ at.0 = ap natural_of at.1 in
    let here : waits_at wanted (Some target) ≡ true =
    subst (λ one. waits_at wanted one ≡ true) at.2 (subst (λ one. waits_at wanted (item_at partition.table one) ≡ true) number waits) in
    suspended_waits_not wanted target.wait suspends (and_parts target.alive _ here).1

suspended_peer : (partitions : ℕ → Partition) (who : Who) (chan : Option ℕ) (process : ℤ) (target : Process) → created (partitions who.part).table process ≡ Some target
    → is_suspension target.wait ≡ true → IsWokenBy partitions who.part chan (peer who process)
suspended_peer partitions who chan process target is suspends =
    record {
      own = λ none. refl;
      sending = λ channel waits. absurd (suspended_elsewhere (partitions who.part) process target (channel_set channel Senders) is suspends waits);
      receiving = λ channel waits. absurd (suspended_elsewhere (partitions who.part) process target (channel_set channel Receivers) is suspends waits);
    }

-- a process in a waiting set of a channel is woken through that channel
channel_waiter : (partitions : ℕ → Partition) (Home : ℕ → Type 0) (wanted : WaitingSet) (number channel : ℕ) (chan : Option ℕ) → chan ≡ Some channel
    → ((other : ℕ) → wanted ≡ channel_set other Senders → other ≡ channel) → ((other : ℕ) → wanted ≡ channel_set other Receivers → other ≡ channel)
    → (entries : List Entry) → AllEntries (IsTied Home wanted partitions) entries → AllEntries (λ entry. IsWokenBy partitions number chan entry.who) entries
channel_waiter partitions Home wanted number channel chan is sending receiving entries all =
    all_weaker (IsTied Home wanted partitions) (λ entry. IsWokenBy partitions number chan entry.who) (λ entry tied. record {
      own = λ none. (never_found (sym (sym is ∙ none)));
      sending = λ other also. is ∙ ap Some (sym (sending other (one_set wanted (channel_set other Senders) (found partitions entry.who) tied.1 also)));
      receiving = λ other also. is ∙ ap Some (sym (receiving other (one_set wanted (channel_set other Receivers) (found partitions entry.who) tied.1 also)));
    }) entries all

-- arrivals and departures

-- a process that waits at this end of a channel, of a partition at that end
abbrev pub WaitsThere : (ℕ → Partition) → Configuration → ℕ → End → Who → Type 0
WaitsThere partitions configuration channel Senders who =
    IsTrue (is_sender configuration channel who.part) × IsTrue (waits_at (channel_set channel Senders) (found partitions who))
WaitsThere partitions configuration channel Receivers who =
    IsTrue (is_receiver configuration channel who.part) × IsTrue (waits_at (channel_set channel Receivers) (found partitions who))

-- an arrival wakes a process that waits to receive
pub arrival_wakes : (configuration : Configuration) (state : State) (core : ℕ) (crossing : Crossing) → AreTied configuration state
    → IsLawfulArrival configuration state core crossing → (who : Who) → is_named who crossing.woken ≡ true → WaitsThere state.partitions configuration crossing.chan Receivers who
arrival_wakes configuration state core crossing tied law who named =
    use_wakes (WaitsThere state.partitions configuration crossing.chan Receivers) configuration (time_of state.cores core) crossing.chan 0
    (arrival_use crossing.message (state.channels crossing.chan).content) (state.channels crossing.chan) (state.channels crossing.chan).content
    (by (state.channels crossing.chan).content) who (sym (law.woken who) ∙ named)
  where
    by : (content : Content) → AllEntries (λ entry. WaitsThere state.partitions configuration crossing.chan Receivers entry.who) (woken_from (arrival_use crossing.message content) (state.channels crossing.chan))
    by (Sampled last) = tt
    by (Queued messages) =
        all_weaker (IsTied (λ home. IsTrue (is_receiver configuration crossing.chan home)) (channel_set crossing.chan Receivers) state.partitions) _ (λ entry tied. tied)
        (state.channels crossing.chan).receivers (tied.receivers crossing.chan)

-- a departure wakes a process that waits to send
pub departure_wakes : (configuration : Configuration) (state : State) (core : ℕ) (crossing : Crossing) → AreTied configuration state
    → IsLawfulDeparture configuration state core crossing → (who : Who) → is_named who crossing.woken ≡ true → WaitsThere state.partitions configuration crossing.chan Senders who
departure_wakes configuration state core crossing tied law who named =
    use_wakes (WaitsThere state.partitions configuration crossing.chan Senders) configuration (time_of state.cores core) crossing.chan 0 (Receive (pos 0))
    (state.channels crossing.chan) (state.channels crossing.chan).content
    (all_weaker (IsTied (λ home. IsTrue (is_sender configuration crossing.chan home)) (channel_set crossing.chan Senders) state.partitions) _ (λ entry tied. tied)
    (state.channels crossing.chan).senders (tied.senders crossing.chan)) who (sym (law.woken who) ∙ named)

-- who waits at an end of a channel waits in no other set
pub waits_nowhere_else : (partitions : ℕ → Partition) (configuration : Configuration) (channel : ℕ) (end : End) (wanted : WaitingSet) (who : Who)
    → WaitsThere partitions configuration channel end who → waits_at wanted (found partitions who) ≡ true → wanted ≡ channel_set channel end
waits_nowhere_else partitions configuration channel Senders wanted who there waits = one_set wanted (channel_set channel Senders) (found partitions who) waits there.1
waits_nowhere_else partitions configuration channel Receivers wanted who there waits = one_set wanted (channel_set channel Receivers) (found partitions who) waits there.1

-- what a lawful call claims of its outcome, if these error conditions hold and its service goes through this channel
abbrev pub ClaimsOutcome : Configuration → State → ℕ → Who → Request → Claim → List Condition → Option ℕ → Type 0
ClaimsOutcome configuration state core who asked claim conditions channel =
    HasOutcome conditions channel (answer_of configuration state.cores core who (state.partitions who.part) asked) (λ number. suits_use configuration number who.part (use_of asked) (state.channels number))
    (channel_answer configuration (time_of state.cores core) who.part asked state.channels) claim

-- the processes that a call with a lawful outcome names
pub woken : (configuration : Configuration) (state : State) (core : ℕ) (who : Who) (asked : Request) (claim : Claim) → AreTied configuration state
    → (conditions : List Condition) (channel : Option ℕ) → ClaimsOutcome configuration state core who asked claim conditions channel
    → (one : Who) → is_named one claim.woken ≡ true → IsWokenBy state.partitions who.part claim.chan one
woken configuration state core who asked claim tied (condition ∷ conditions) channel has one named = nobody one claim.woken has.woken named
woken configuration state core who asked claim tied [] None has one named =
    (answer_wakes (IsWokenBy state.partitions who.part claim.chan) configuration state.cores core who (state.partitions who.part) asked
    (λ wanted used. own_waiter state.partitions who.part wanted claim.chan (tied.objects who.part wanted))
    (λ process target is suspends. suspended_peer state.partitions who claim.chan process target is suspends)
    (λ gives. lock_waiter state.partitions who.part claim.chan (tied.locks who.part)))
    one (sym (has.woken one) ∙ named)
woken configuration state core who asked claim tied [] (Some channel) has one named =
    channel_wakes (IsWokenBy state.partitions who.part claim.chan) configuration (time_of state.cores core) channel who.part (use_of asked) (state.channels channel)
    (channel_waiter state.partitions (λ home. IsTrue (is_receiver configuration channel home)) (channel_set channel Receivers) who.part channel claim.chan has.chan
    (λ other same. ap (λ one. one.number) (sym same)) (λ other same. ap (λ one. one.number) (sym same)) (state.channels channel).receivers (tied.receivers channel))
    (channel_waiter state.partitions (λ home. IsTrue (is_sender configuration channel home)) (channel_set channel Senders) who.part channel claim.chan has.chan
    (λ other same. ap (λ one. one.number) (sym same)) (λ other same. ap (λ one. one.number) (sym same)) (state.channels channel).senders (tied.senders channel))
    one (sym (has.woken one) ∙ named)

-- At which waiting set a call waits, and how a wait with a time-out ends.

-- the set of a service

set_by : {asked : Request} {chan : Option ℕ} {wanted : WaitingSet} → WaitsIn asked chan wanted → set_of asked chan ≡ Some wanted
set_by WaitsIn.sends_to_buffer = refl
set_by _ = refl

set_is : (asked : Request) (chan : Option ℕ) (wanted : WaitingSet) → set_of asked chan ≡ Some wanted → WaitsIn asked chan wanted
set_is (Request.Object buffer (on.Buffer (BufferOperation.Send length time_out message))) chan wanted is = subst (WaitsIn _ chan) (one_item is) WaitsIn.sends_to_buffer
set_is (Request.Object buffer (on.Buffer (BufferOperation.Receive time_out))) chan wanted is = subst (WaitsIn _ chan) (one_item is) WaitsIn.receives_from_buffer
set_is (Request.Object blackboard (on.Blackboard (BlackboardOperation.Read time_out))) chan wanted is = subst (WaitsIn _ chan) (one_item is) WaitsIn.reads_blackboard
set_is (Request.Object semaphore (on.Semaphore (SemaphoreOperation.Wait time_out))) chan wanted is = subst (WaitsIn _ chan) (one_item is) WaitsIn.waits_for_semaphore
set_is (Request.Object event (on.Event (EventOperation.Wait time_out))) chan wanted is = subst (WaitsIn _ chan) (one_item is) WaitsIn.waits_for_event
set_is (Request.Object mutex (on.Mutex (MutexOperation.Acquire time_out))) chan wanted is = subst (WaitsIn _ chan) (one_item is) WaitsIn.acquires_mutex
set_is (Request.QueuingPort port (QueuingOperation.Send length time_out message)) (Some channel) wanted is = subst (WaitsIn _ (Some channel)) (one_item is) WaitsIn.sends_through
set_is (Request.QueuingPort port (QueuingOperation.Receive time_out)) (Some channel) wanted is = subst (WaitsIn _ (Some channel)) (one_item is) WaitsIn.receives_through
set_is (Request.QueuingPort port QueuingOperation.Clear) (Some channel) wanted is = never_found is
set_is _ chan wanted is = never_found is

-- a call that waits
pub waiting_tells : (given : Out) → Tells (is_waiting given) (given ≡ Out.Waits)
waiting_tells Out.Waits = (λ holds. refl, λ fact. refl)
waiting_tells Out.Never = (impossible, λ fact. ap is_waiting fact)
waiting_tells (Out.Answer one) = (impossible, λ fact. ap is_waiting fact)

set_tells : (asked : Request) (chan : Option ℕ) (wanted : WaitingSet) → Tells (is_the_set wanted (set_of asked chan)) (WaitsIn asked chan wanted)
set_tells asked chan wanted = (λ holds. set_is asked chan wanted (found_set wanted (set_of asked chan) holds), λ fact. ap (is_the_set wanted) (set_by fact) ∙ set_itself wanted)

pub entering_is_the_sentence : EnteringIsTheSentence
entering_is_the_sentence call wanted = tells_both (waiting_tells call.claim.out) (set_tells call.request call.claim.chan wanted)

-- the set of the lock
of_lock_tells : (asked : Request) → Tells (is_of_lock asked) ((operation : LockOperation) × (asked ≡ Request.Preemption operation))
of_lock_tells (Request.Preemption operation) = (λ holds. (operation, refl), λ fact. refl)
of_lock_tells _ = (impossible, λ fact. ap is_of_lock fact.1)

pub entering_lock_is_the_sentence : EnteringLockIsTheSentence
entering_lock_is_the_sentence call = tells_both (waiting_tells call.claim.out) (of_lock_tells call.request)

pub lock_is_awaited_forever : LockIsAwaitedForever
lock_is_awaited_forever core time process is = ap (λ one. nat_eq process.affinity core && due_by time one) is ∙ not_second (nat_eq process.affinity core) false refl

-- the wait of a caller

wait_by : {asked : Request} {chan : Option ℕ} {wanted : WaitingSet} → (now : ℕ) (old : Process) → WaitsIn asked chan wanted
    → wait_of asked chan now old ≡ Wait.At wanted (due_of_call (time_out_of asked) now)
wait_by now old WaitsIn.sends_to_buffer = refl
wait_by now old _ = refl

due_by_call : {asked : Request} {chan : Option ℕ} {wanted : WaitingSet} → (now : ℕ) (given : ℤ) → WaitsIn asked chan wanted → HasTimeOut asked given
    → due_of_call (time_out_of asked) now ≡ due_time given now
due_by_call now given WaitsIn.sends_to_buffer same = ap (λ one. due_time one now) (sym same)
due_by_call now given _ same = ap (λ one. due_time one now) (sym same)

service_by : {asked : Request} {chan : Option ℕ} {wanted : WaitingSet} → WaitsIn asked chan wanted → service_at wanted ≡ Some (service_of asked)
service_by WaitsIn.sends_to_buffer = refl
service_by _ = refl

-- a process of this core with this wait falls due
abbrev Due : ℕ → ℕ → Process → Wait → Bool
Due core time old one = nat_eq old.affinity core && due_by time one

falls_by_wait : (place now core time : ℕ) (call : CallRecord) (given : Out) (old : Process) → given ≡ Out.Waits
    → (nat_eq (caller_with place now call given old).affinity core && due_by time (caller_with place now call given old).wait) ≡ Due core time old (wait_of call.request call.claim.chan now old)
falls_by_wait place now core time call given old waits =
    ap (λ one. nat_eq (caller_with place now call one old).affinity core && due_by time (caller_with place now call one old).wait) waits

pub time_out_is_the_sentence : TimeOutIsTheSentence
time_out_is_the_sentence place now call wanted old waits in_set =
    let begun : (core time : ℕ) → falls_due core time (Some (caller_after place now false call old)) ≡ Due core time old (Wait.At wanted (due_of_call (time_out_of call.request) now)) =
    λ core time. falls_by_wait place now core time call call.claim.out old waits ∙ ap (Due core time old) (wait_by now old in_set) in
    let until : (given : ℤ) (core time : ℕ) → HasTimeOut call.request given → falls_due core time (Some (caller_after place now false call old)) ≡ Due core time old (Wait.At wanted (due_time given now)) =
    λ given core time has. begun core time ∙ ap (λ due. Due core time old (Wait.At wanted due)) (due_by_call now given in_set has) in (
      λ ticks core time has.
          let due = tells_both (equal_tells old.affinity core) (at_most_tells (now + ticks) time) in
          (λ falls. due.0 (sym (until (pos ticks) core time has) ∙ falls), λ facts. until (pos ticks) core time has ∙ due.1 facts),
      λ has core time. until (negsuc 0) core time has ∙ not_second (nat_eq old.affinity core) false refl,
      λ later.
          let outcome : Wait → Option Outcome = λ one. outcome_by (service_of_wait one) (code_when_due one) None [] in
          ap (λ one. outcome (caller_with place now call one old).wait) waits ∙ ap outcome (wait_by now old in_set)
          ∙ ap (λ one. outcome_by one Code.TimedOut None []) (service_by in_set),
    )
