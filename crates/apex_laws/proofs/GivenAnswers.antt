-- What the services of process management, time and health monitoring give is exactly what the sentences say.
use Rattle.std.proofs.Common.{◌≡◌, ℕ, zero, suc, not, subst, ◌+◌, ◌<◌, ◌≤◌, ℤ, pos, negsuc, List, [], Option, Some, None, option_map, Bool, true, false, cond, nat_eq, nat_le, IsTrue, refl, sym, ap, ◌∙◌, inl, inr, arith, true≢false, ◌&&◌, ◌∷◌}
use Rattle.std.specs.Option.{option_to_list}
use Rattle.std.proofs.lemmas.Bool.{and_from, and_parts, eqb-true, eq-eqb, leb-true}
use Rattle.apex_laws.specs.ProcessLaws.{AnswerIsTheSentence, CallerIsTheSentence, CreationIsTheSentence, DueIsTheSentence, ReleaseIsTheSentence, SettingIsTheSentence, StoppingIsTheSentence, WakingIsTheSentence}
use Rattle.apex_types.specs.declared.operation.ObjectOperation.TheVariants as on
use Rattle.apex_machine.specs.Answer.{Number}
use Rattle.apex_laws.proofs.Common.{Answer, CallerOperation, CallRecord, Code, HasDueTime, IsAtRelease, IsBegun, IsCaller, IsEntry, IsMutexChange, IsNormalEntered, IsOverOrWaits, IsOwnerChange, IsReleased, IsResuming}
use Rattle.apex_laws.proofs.Common.{IsStarted, IsWoken, Mode, Mutex, MutexOperation, OnTarget, Out, Process, ProcessOperation, Renews, Request, Wait, WaitingSet, WaitsForOther, Who, acquired, after_normal, by_mutex, caller_after}
use Rattle.apex_laws.proofs.Common.{caller_with, code_when_due, created, done, due_by, due_of_call, entry_wait, first_release, first_waiter, given_object, is_normal, is_number, is_over, is_owner, is_released, is_suspension, is_waiting}
use Rattle.apex_laws.proofs.Common.{item_at, mutex_released, natural_of, next_release, on_ownership, outcome_by, outcome_of, peer, release_taken, released, renews, resuming, service_of_wait, set_of, started, stopped, taking, time_of, time_out_of}
use Rattle.apex_laws.proofs.Common.{wait_ended, wait_in, wait_of, waiting, waits_for_normal, waking, woken_by}
use Rattle.apex_laws.proofs.Common.{CoreState, IsModeNumber, IsPartitionStatus, IsProcessStatus, IsStartNumber, IsStateNumber, Partition, StartCondition, answer_by, delay_kept, delay_wait, handed_on, is_occupant, is_ready, mode_number, occupant_of, partition_status, process_status, reporting, start_number, state_number}
use Rattle.apex_laws.proofs.Common.{Entry, IsMutexState, IsStop, Lock, done_with, first_for_lock, freed_by_stop, mutex_owned, mutex_state, never_waking, next_owner, value_when_woken, IsDeadlineNumber, IsEntryDeadline, deadline_by, deadline_number, entry_deadline}
use Rattle.apex_laws.proofs.Common.{HasCalled, HealthOperation, handles_more}
use Rattle.apex_laws.proofs.ErrorRules.{after_error_by, after_error_says, health_is_the_sentence, more_by, more_is, stop_set_by, stop_set_says}
use Rattle.apex_laws.proofs.WaitersOf.{same_is, same_itself}
use Rattle.apex_laws.proofs.Choices.{is_ready_by, ready_is}
use Rattle.apex_laws.proofs.Booleans.{by_test, cannot_hold, either_way, impossible, never_found, same_if}
use Rattle.apex_laws.proofs.ConditionTests.{normal_tells, number_tells, over_tells, owner_tells, Tells}
use Rattle.apex_laws.proofs.DeadlineRules.{after_is, after_says, entry_deadline_is, entry_deadline_says, first_release_is, one_release}

-- over at once, or waiting
over_or_waits : (Over : Type 0) (test : Bool) (answer : Answer) → (test ≡ true → Over) → (Over → test ≡ true)
    → (answer ≡ cond test done waiting → IsOverOrWaits Over answer) × (IsOverOrWaits Over answer → answer ≡ cond test done waiting)
over_or_waits Over test answer is by = (
  λ gives. by_test (λ one. answer ≡ one → IsOverOrWaits Over answer) test done waiting
      (λ over gives. IsOverOrWaits.over (is over) gives) (λ later gives. IsOverOrWaits.later (λ over. true≢false (sym (by over) ∙ later)) gives) gives,
  back,
)
  where
    back : IsOverOrWaits Over answer → answer ≡ cond test done waiting
    back (IsOverOrWaits.over over gives) = rw (by over) gives
    back (IsOverOrWaits.later later gives) = rw (cannot_hold test (λ over. later (is over))) gives

-- the next release
release_is : (now : ℕ) (found : Option Process) → is_released now found ≡ true → IsAtRelease now found
release_is now None is = impossible is
release_is now (Some process) is = leb-true (next_release process) now is

release_by : (now : ℕ) (found : Option Process) → IsAtRelease now found → is_released now found ≡ true
release_by now None is = absurd is
release_by now (Some process) is = grind arith

-- RESUME
suspension_is : (one : Wait) → is_suspension one ≡ true → (due : Option ℕ) × (one ≡ Wait.Suspended due)
suspension_is (Wait.Suspended due) is = (due, refl)
suspension_is _ is = impossible is

resuming_says : (target : Who) (found : Option Process) (answer : Answer) → answer ≡ resuming target found → IsResuming target found answer
resuming_says target None answer gives = IsResuming.nobody refl gives
resuming_says target (Some process) answer gives =
    by_test (λ one. answer ≡ one → IsResuming target (Some process) answer) (is_suspension process.wait) (waking (target ∷ [])) done
    (λ suspends gives. (let is = suspension_is process.wait suspends in IsResuming.suspended_itself process is.0 refl is.1 gives))
    (λ not_suspended gives. IsResuming.was_marked process refl (λ due is. true≢false (sym (ap is_suspension is) ∙ not_suspended)) gives) gives

resuming_by : (target : Who) (found : Option Process) (answer : Answer) → IsResuming target found answer → answer ≡ resuming target found
resuming_by target found answer (IsResuming.suspended_itself process due at is gives) =
    gives ∙ sym (ap (resuming target) at ∙ ap (λ test. cond test (waking (target ∷ [])) done) (ap is_suspension is))
resuming_by target found answer (IsResuming.was_marked process at not_suspended gives) =
    gives ∙ sym (ap (resuming target) at ∙ ap (λ test. cond test (waking (target ∷ [])) done)
    (cannot_hold (is_suspension process.wait) (λ is. let one = suspension_is process.wait is in not_suspended one.0 one.1)))
resuming_by target found answer (IsResuming.nobody none gives) = gives ∙ sym (ap (resuming target) none)

-- statuses

mode_says : (one : Mode) → IsModeNumber one (mode_number one)
mode_says Mode.Idle = refl
mode_says Mode.ColdStart = refl
mode_says Mode.WarmStart = refl
mode_says Mode.Normal = refl

mode_is : (one : Mode) (number : ℕ) → IsModeNumber one number → number ≡ mode_number one
mode_is Mode.Idle number is = is
mode_is Mode.ColdStart number is = is
mode_is Mode.WarmStart number is = is
mode_is Mode.Normal number is = is

start_says : (one : StartCondition) → IsStartNumber one (start_number one)
start_says StartCondition.NormalStart = refl
start_says StartCondition.PartitionRestart = refl
start_says StartCondition.ErrorRestart = refl

start_is : (one : StartCondition) (number : ℕ) → IsStartNumber one number → number ≡ start_number one
start_is StartCondition.NormalStart number is = is
start_is StartCondition.PartitionRestart number is = is
start_is StartCondition.ErrorRestart number is = is

partition_says : (partition : Partition) (answer : Answer) → answer ≡ partition_status partition → IsPartitionStatus partition answer
partition_says partition answer gives = record {
  mode = mode_number partition.mode;
  is_mode = mode_says partition.mode;
  start = start_number partition.start;
  is_start = start_says partition.start;
  reports = gives;
}

partition_by : (partition : Partition) (answer : Answer) → IsPartitionStatus partition answer → answer ≡ partition_status partition
partition_by partition answer is =
    let same_mode = mode_is partition.mode is.mode is.is_mode in
    let same_start = start_is partition.start is.start is.is_start in
    is.reports ∙ (λ i. reporting (pos (same_mode i)) (Some (pos partition.lock.level)) (Some (pos (same_start i))))

-- the occupant of a core
occupant_is : (who : Who) (found : Option Who) → is_occupant who found ≡ true → found ≡ Some who
occupant_is who None is = impossible is
occupant_is who (Some one) is = ap Some (sym (same_is who one is))

occupant_by : (who : Who) (found : Option Who) → found ≡ Some who → is_occupant who found ≡ true
occupant_by who found is = ap (is_occupant who) is ∙ same_itself who

-- the number of a state, by its four tests
abbrev state_by : Bool → Bool → Bool → Bool → ℕ
state_by alive faults ready occupies = cond (not alive) 0 (cond faults 4 (cond (not ready) 3 (cond occupies 2 1)))

state_says : (cores : List CoreState) (who : Who) (process : Process) → IsStateNumber cores who process (state_number cores who process)
state_says cores who process =
    by process.alive refl process.faulted refl (is_ready process.affinity process) refl (is_occupant who (occupant_of cores process.affinity)) refl
  where
    by : (alive : Bool) → process.alive ≡ alive → (faults : Bool) → process.faulted ≡ faults → (ready : Bool) → is_ready process.affinity process ≡ ready → (occupies : Bool)
        → is_occupant who (occupant_of cores process.affinity) ≡ occupies → IsStateNumber cores who process (state_by alive faults ready occupies)
    by false dead faults faulted ready readies occupies occupied = IsStateNumber.dormant dead refl
    by true lives true faulted ready readies occupies occupied = IsStateNumber.faulted lives faulted refl
    by true lives false sound false off occupies occupied = IsStateNumber.waits lives sound (λ is. true≢false (sym (is_ready_by process.affinity process is) ∙ off)) refl
    by true lives false sound true readies true occupied = IsStateNumber.running (ready_is process.affinity process readies) (occupant_is who (occupant_of cores process.affinity) occupied) refl
    by true lives false sound true readies false other =
        IsStateNumber.ready (ready_is process.affinity process readies) (λ is. true≢false (sym (occupant_by who (occupant_of cores process.affinity) is) ∙ other)) refl

state_is : (cores : List CoreState) (who : Who) (process : Process) (number : ℕ) → IsStateNumber cores who process number → number ≡ state_number cores who process
state_is cores who process number (IsStateNumber.dormant dead is) =
    is ∙ sym (ap (λ alive. state_by alive process.faulted (is_ready process.affinity process) (is_occupant who (occupant_of cores process.affinity))) dead)
state_is cores who process number (IsStateNumber.faulted lives faults is) =
    is ∙ sym (λ i. state_by (lives i) (faults i) (is_ready process.affinity process) (is_occupant who (occupant_of cores process.affinity)))
state_is cores who process number (IsStateNumber.waits lives sound not_ready is) =
    is ∙ sym (λ i. state_by (lives i) (sound i) (cannot_hold (is_ready process.affinity process) (λ readies. not_ready (ready_is process.affinity process readies)) i)
    (is_occupant who (occupant_of cores process.affinity)))
state_is cores who process number (IsStateNumber.running readies occupied is) =
    is ∙ sym (λ i. state_by (readies.alive i) (readies.sound i) (is_ready_by process.affinity process readies i) (occupant_by who (occupant_of cores process.affinity) occupied i))
state_is cores who process number (IsStateNumber.ready readies other is) =
    is ∙ sym (λ i. state_by (readies.alive i) (readies.sound i) (is_ready_by process.affinity process readies i)
    (cannot_hold (is_occupant who (occupant_of cores process.affinity)) (λ occupies. other (occupant_is who (occupant_of cores process.affinity) occupies)) i))

-- a deadline as it is reported
number_says : (deadline : Option ℕ) → IsDeadlineNumber deadline (deadline_number deadline)
number_says None = refl
number_says (Some time) = refl

number_is : (deadline : Option ℕ) (number : ℤ) → IsDeadlineNumber deadline number → number ≡ deadline_number deadline
number_is None number is = is
number_is (Some time) number is = is

process_says : (cores : List CoreState) (target : Who) (found : Option Process) (answer : Answer) → answer ≡ answer_by found (process_status cores target) → IsProcessStatus cores target found answer
process_says cores target None answer gives = IsProcessStatus.nobody refl gives
process_says cores target (Some process) answer gives = IsProcessStatus.of_process process (state_number cores target process) (deadline_number process.deadline) refl (state_says cores target process) (number_says process.deadline) gives

process_by : (cores : List CoreState) (target : Who) (found : Option Process) (answer : Answer) → IsProcessStatus cores target found answer → answer ≡ answer_by found (process_status cores target)
process_by cores target found answer (IsProcessStatus.of_process process number deadline at state tells gives) =
    let same_state = state_is cores target process number state in
    let same_deadline = number_is process.deadline deadline tells in
    gives ∙ (λ i. reporting (pos (same_state i)) (Some (pos process.current_priority)) (Some (same_deadline i)))
    ∙ sym (ap (λ one. answer_by one (process_status cores target)) at)
process_by cores target found answer (IsProcessStatus.nobody none gives) = gives ∙ sym (ap (λ one. answer_by one (process_status cores target)) none)

-- the mutex state of a process
mutex_state_says : (partition : Partition) (process : ℕ) (answer : Answer) → answer ≡ done_with (Number (mutex_state partition process)) → IsMutexState partition process answer
mutex_state_says partition process answer gives =
    by_test (λ (number : ℤ). answer ≡ done_with (Number number) → IsMutexState partition process answer) (is_owner partition.lock.owner process)
    (negsuc 2) (mutex_owned partition.mutexes process) (λ owns gives. IsMutexState.owns_lock ((owner_tells partition.lock.owner process).0 owns) gives)
    (λ owns_not gives. IsMutexState.other (λ owns. true≢false (sym ((owner_tells partition.lock.owner process).1 owns) ∙ owns_not)) gives) gives

mutex_state_by : (partition : Partition) (process : ℕ) (answer : Answer) → IsMutexState partition process answer → answer ≡ done_with (Number (mutex_state partition process))
mutex_state_by partition process answer (IsMutexState.owns_lock owns gives) = rw ((owner_tells partition.lock.owner process).1 owns) gives
mutex_state_by partition process answer (IsMutexState.other owns_not gives) =
    rw (cannot_hold (is_owner partition.lock.owner process) (λ owns. owns_not ((owner_tells partition.lock.owner process).0 owns))) gives

-- STOP, STOP_SELF

-- what a stop answers, by whether its target owns the lock, and by the first that waits for it
abbrev freed_if : Lock → Bool → List Who
freed_if lock owns = cond owns (next_owner lock) []

abbrev to_wake : Option Entry → List Who
to_wake first = option_to_list (option_map (λ entry. entry.who) first)

stop_says : (process : ℕ) (lock : Lock) (Answers : List Who → Answer) (answer : Answer) → answer ≡ Answers (freed_by_stop process lock) → IsStop process lock Answers answer
stop_says process lock Answers answer gives =
    either_way (is_owner lock.owner process)
    (λ owns. by (first_for_lock lock) refl ((owner_tells lock.owner process).0 owns) (gives ∙ ap (λ one. Answers (freed_if lock one)) owns))
    (λ owns_not. IsStop.owns_nothing (λ owns. true≢false (sym ((owner_tells lock.owner process).1 owns) ∙ owns_not)) (gives ∙ ap (λ one. Answers (freed_if lock one)) owns_not))
  where
    by : (first : Option Entry) → first_for_lock lock ≡ first → lock.owner ≡ Some process → answer ≡ Answers (next_owner lock) → IsStop process lock Answers answer
    by None none owns gives = IsStop.nobody_waits owns none (gives ∙ ap (λ one. Answers (to_wake one)) none)
    by (Some waiter) first owns gives = IsStop.passes_on waiter owns first (gives ∙ ap (λ one. Answers (to_wake one)) first)

stop_by : (process : ℕ) (lock : Lock) (Answers : List Who → Answer) (answer : Answer) → IsStop process lock Answers answer → answer ≡ Answers (freed_by_stop process lock)
stop_by process lock Answers answer (IsStop.passes_on waiter owns first gives) =
    gives ∙ sym (ap (λ one. Answers (freed_if lock one)) ((owner_tells lock.owner process).1 owns) ∙ ap (λ one. Answers (to_wake one)) first)
stop_by process lock Answers answer (IsStop.nobody_waits owns none gives) =
    gives ∙ sym (ap (λ one. Answers (freed_if lock one)) ((owner_tells lock.owner process).1 owns) ∙ ap (λ one. Answers (to_wake one)) none)
stop_by process lock Answers answer (IsStop.owns_nothing owns_not gives) =
    gives ∙ sym (ap (λ one. Answers (freed_if lock one)) (cannot_hold (is_owner lock.owner process) (λ owns. owns_not ((owner_tells lock.owner process).0 owns))))

-- every service
pub answer_is_the_sentence : AnswerIsTheSentence
answer_is_the_sentence configuration cores core who partition (Request.Caller (CallerOperation.SuspendSelf time_out)) answer = over_or_waits (time_out ≡ pos 0) (is_over time_out) answer (over_tells time_out).0 (λ is. ap is_over is)
answer_is_the_sentence configuration cores core who partition (Request.Caller (CallerOperation.TimedWait ticks)) answer = over_or_waits (ticks ≡ pos 0) (is_over ticks) answer (over_tells ticks).0 (λ is. ap is_over is)
answer_is_the_sentence configuration cores core who partition (Request.Caller CallerOperation.PeriodicWait) answer =
    over_or_waits (IsAtRelease (time_of cores core) (item_at partition.table who.proc)) (is_released (time_of cores core) (item_at partition.table who.proc)) answer
    (release_is (time_of cores core) (item_at partition.table who.proc)) (release_by (time_of cores core) (item_at partition.table who.proc))
answer_is_the_sentence configuration cores core who partition (Request.Process process ProcessOperation.Resume) answer =
    (resuming_says (peer who process) (created partition.table process) answer, resuming_by (peer who process) (created partition.table process) answer)
answer_is_the_sentence configuration cores core who partition (Request.Process process ProcessOperation.GetStatus) answer =
    (process_says cores (peer who process) (created partition.table process) answer, process_by cores (peer who process) (created partition.table process) answer)
answer_is_the_sentence configuration cores core who partition (Request.Caller CallerOperation.GetPartitionStatus) answer = (partition_says partition answer, partition_by partition answer)
answer_is_the_sentence configuration cores core who partition (Request.Process process ProcessOperation.GetMutexState) answer =
    (mutex_state_says partition (natural_of process) answer, mutex_state_by partition (natural_of process) answer)
answer_is_the_sentence configuration cores core who partition (Request.Process process ProcessOperation.Stop) answer =
    (stop_says (natural_of process) partition.lock waking answer, stop_by (natural_of process) partition.lock waking answer)
answer_is_the_sentence configuration cores core who partition (Request.Caller CallerOperation.StopSelf) answer =
    (stop_says who.proc partition.lock never_waking answer, stop_by who.proc partition.lock never_waking answer)
answer_is_the_sentence configuration cores core who partition (Request.Health operation) answer = health_is_the_sentence configuration who.part partition who.proc operation answer
answer_is_the_sentence configuration cores core who partition _ answer = (λ gives. gives, λ gives. gives)
