-- What the rules compute of a process, and answer to its services, is exactly what the sentences say.
use Rattle.std.proofs.Common.{◌≡◌, ℕ, zero, suc, not, subst, ◌+◌, ◌<◌, ◌≤◌, ℤ, pos, negsuc, List, [], Option, Some, None, option_map, Bool, true, false, cond, nat_eq, nat_le, IsTrue, refl, sym, ap, ◌∙◌, inl, inr, arith, true≢false, ◌&&◌, ◌∷◌}
use Rattle.std.specs.Option.{option_to_list}
use Rattle.std.proofs.lemmas.Bool.{and_from, and_parts, eqb-true, eq-eqb, leb-true}
use Rattle.apex_laws.specs.ProcessLaws.{AnswerIsTheSentence, CallerIsTheSentence, CreationIsTheSentence, DueIsTheSentence, ReleaseIsTheSentence, SettingIsTheSentence, StoppingIsTheSentence, WakingIsTheSentence}
use Rattle.apex_types.specs.declared.operation.ObjectOperation.TheVariants as on
use Rattle.apex_machine.specs.Answer.{Number}
use Rattle.apex_laws.proofs.Common.{Answer, CallerOperation, CallRecord, Code, HasDueTime, IsAtRelease, IsBegun, IsCaller, IsEntry, IsMutexChange, IsNormalEntered, IsOverOrWaits, IsOwnerChange, IsReleased, IsResuming}
use Rattle.apex_laws.proofs.Common.{IsStarted, IsWoken, Mode, Mutex, MutexOperation, OnTarget, Out, Process, ProcessOperation, Renews, Request, Wait, WaitingSet, WaitsForOther, Who, acquired, after_normal, by_mutex, caller_after}
use Rattle.apex_laws.proofs.Common.{caller_with, code_when_due, created, done, due_by, due_of_call, entry_wait, first_release, first_waiter, given_object, is_normal, is_number, is_over, is_owner, is_released, is_suspension, is_waiting}
use Rattle.apex_laws.proofs.Common.{item_at, mutex_released, natural_of, next_release, on_ownership, outcome_by, outcome_of, peer, release_taken, released, renews, resuming, service_of_wait, set_of, started, stopped, taking, time_of, time_out_of}
use Rattle.apex_laws.proofs.Common.{wait_ended, wait_in, wait_of, waiting, waits_for_normal, waking, woken_by}
use Rattle.apex_laws.proofs.Common.{CoreState, IsModeNumber, IsPartitionStatus, IsProcessStatus, IsStartNumber, IsStateNumber, Partition, StartCondition, answer_by, delay_kept, delay_wait, handed_on, is_occupant, is_ready, mode_number, occupant_of, partition_status, process_status, reporting, start_number, state_number}
use Rattle.apex_laws.proofs.Common.{Entry, IsMutexState, IsStop, Lock, done_with, first_for_lock, freed_by_stop, mutex_owned, mutex_state, never_waking, next_owner, value_when_woken, IsDeadlineNumber, IsEntryDeadline, deadline_by, deadline_number, entry_deadline}
use Rattle.apex_laws.proofs.Common.{HasCalled, HealthOperation, handles_more}
use Rattle.apex_laws.proofs.ErrorRules.{after_error_by, after_error_says, health_is_the_sentence, more_by, more_is, stop_set_by, stop_set_says}
use Rattle.apex_laws.proofs.WaitersOf.{same_is, same_itself}
use Rattle.apex_laws.proofs.Choices.{is_ready_by, ready_is}
use Rattle.apex_laws.proofs.Booleans.{by_test, cannot_hold, either_way, impossible, never_found, same_if}
use Rattle.apex_laws.proofs.ConditionTests.{normal_tells, number_tells, over_tells, owner_tells, Tells}
use Rattle.apex_laws.proofs.DeadlineRules.{after_is, after_says, entry_deadline_is, entry_deadline_says, first_release_is, one_release}

-- What the rules compute of a process is exactly what the sentences say.

-- a target

not_number : (process : ℤ) (number : ℕ) → ¬ (process ≡ pos number) → is_number process number ≡ false
not_number process number differs = cannot_hold (is_number process number) (λ is. differs ((number_tells process number).0 is))

-- a service that changes its target alone
on_target : (process : ℤ) (number : ℕ) (Changed : Type 0) (changed old new : Process) → ((new ≡ changed) → Changed) → (Changed → new ≡ changed)
    → (new ≡ cond (is_number process number) changed old → OnTarget process number Changed old new) × (OnTarget process number Changed old new → new ≡ cond (is_number process number) changed old)
on_target process number Changed changed old new says by = (
  λ is. by_test (λ one. new ≡ one → OnTarget process number Changed old new) (is_number process number) changed old
      (λ own is. inl ((number_tells process number).0 own, says is)) (λ other is. inr (λ own. true≢false (sym ((number_tells process number).1 own) ∙ other), is)) is,
  back,
)
  where
    back : OnTarget process number Changed old new → new ≡ cond (is_number process number) changed old
    back (inl here) = rw ((number_tells process number).1 here.0) (by here.1)
    back (inr elsewhere) = rw (not_number process number elsewhere.0) elsewhere.1

-- entry into NORMAL

entry_says : (period now delay : ℕ) (own : Option ℕ) → 0 < period → IsEntry period now delay own (entry_wait period now delay own)
entry_says period now zero None above = IsEntry.at_once refl refl refl
entry_says period now (suc delay) None above = IsEntry.delayed refl (omega arith) refl
entry_says period now delay (Some own) above = IsEntry.periodic own (first_release period now) refl (first_release_is period now above) refl

-- a delay above 0
delayed_wait : (now delay : ℕ) → 0 < delay → Wait.Delay (now + delay) ≡ delay_wait now delay
delayed_wait now zero above = absurd (omega (arith, above))
delayed_wait now (suc delay) above = refl

entry_by : (period now delay : ℕ) (own : Option ℕ) (entry : Wait) → 0 < period → IsEntry period now delay own entry → entry ≡ entry_wait period now delay own
entry_by period now delay own entry above (IsEntry.at_once none no_delay is) = is ∙ (λ i. entry_wait period now (sym no_delay i) (sym none i))
entry_by period now delay own entry above (IsEntry.delayed none some is) = is ∙ delayed_wait now delay some ∙ sym (ap (entry_wait period now delay) none)
entry_by period now delay own entry above (IsEntry.periodic of time some first is) =
    is ∙ ap (λ one. Wait.FirstRelease (one + delay)) (one_release period now time (first_release period now) first (first_release_is period now above))
    ∙ sym (ap (entry_wait period now delay) some)

-- a process that is started, by whether its partition is in NORMAL
abbrev started_if : ℕ → ℕ → ℕ → ℤ → Process → Bool → Process
started_if place period now delay old test = record old {
  current_priority = old.base_priority;
  alive = true;
  wait = cond test (entry_wait period now (natural_of delay) old.period) (Wait.NormalMode delay);
  deadline = cond test (entry_deadline period now (natural_of delay) old) None;
  ready_position = place;
}

started_by_test : (place period now : ℕ) (delay : ℤ) (old : Process) (one other : Bool) → one ≡ other → started_if place period now delay old one ≡ started_if place period now delay old other
started_by_test place period now delay old one other same = ap (started_if place period now delay old) same

started_says : (place period now : ℕ) (current : Mode) (delay : ℤ) (old new : Process) → 0 < period → new ≡ started place period now current delay old → IsStarted place period now current delay old new
started_says place period now current delay old new above is =
    either_way (is_normal current)
    (λ normal. IsStarted.in_normal (entry_wait period now (natural_of delay) old.period) (entry_deadline period now (natural_of delay) old) ((normal_tells current).0 normal)
    (entry_says period now (natural_of delay) old.period above) (entry_deadline_says period now (natural_of delay) old above) (is ∙ started_by_test place period now delay old (is_normal current) true normal))
    (λ not_normal. IsStarted.before_normal (λ normal. true≢false (sym (ap is_normal normal) ∙ not_normal)) (is ∙ started_by_test place period now delay old (is_normal current) false not_normal))

started_by : (place period now : ℕ) (current : Mode) (delay : ℤ) (old new : Process) → 0 < period → IsStarted place period now current delay old new → new ≡ started place period now current delay old
started_by place period now current delay old new above (IsStarted.in_normal entry deadline normal enters set is) =
    let same_entry = entry_by period now (natural_of delay) old.period entry above enters in
    let same_deadline = entry_deadline_is period now (natural_of delay) old deadline above set in
    is ∙ (λ i. record old { current_priority = old.base_priority; alive = true; wait = same_entry i; deadline = same_deadline i; ready_position = place })
    ∙ sym (started_by_test place period now delay old (is_normal current) true (ap is_normal normal))
started_by place period now current delay old new above (IsStarted.before_normal differs is) =
    is ∙ sym (started_by_test place period now delay old (is_normal current) false (cannot_hold (is_normal current) (λ normal. differs ((normal_tells current).0 normal))))

-- the wait for NORMAL
for_normal_is : (one : Wait) → waits_for_normal one ≡ true → (delay : ℤ) × (one ≡ Wait.NormalMode delay)
for_normal_is (Wait.NormalMode delay) is = (delay, refl)
for_normal_is _ is = impossible is

-- a process that has waited for NORMAL and enters it
abbrev entered_normal : ℕ → ℕ → ℕ → Process → Process
entered_normal place period now old = record old {
  wait = entry_wait period now (delay_kept old.wait) old.period;
  deadline = entry_deadline period now (delay_kept old.wait) old;
  ready_position = place;
}

normal_says : (place period now : ℕ) (old new : Process) → 0 < period → new ≡ after_normal place period now old → IsNormalEntered place period now old new
normal_says place period now old new above is =
    by_test (λ one. new ≡ one → IsNormalEntered place period now old new) (waits_for_normal old.wait)
    (record old { wait = entry_wait period now (delay_kept old.wait) old.period; deadline = entry_deadline period now (delay_kept old.wait) old; ready_position = place }) old
    (λ waits is. (let at = for_normal_is old.wait waits in
    IsNormalEntered.waited at.0 (entry_wait period now (delay_kept old.wait) old.period) (entry_deadline period now (delay_kept old.wait) old) at.1
    (subst (λ one. IsEntry period now one old.period (entry_wait period now (delay_kept old.wait) old.period)) (ap delay_kept at.1) (entry_says period now (delay_kept old.wait) old.period above))
    (subst (λ one. IsEntryDeadline period now one old (entry_deadline period now (delay_kept old.wait) old)) (ap delay_kept at.1) (entry_deadline_says period now (delay_kept old.wait) old above)) is))
    (λ not_waiting is. IsNormalEntered.else_stays (λ delay waits. true≢false (sym (ap waits_for_normal waits) ∙ not_waiting)) is) is

normal_by : (place period now : ℕ) (old new : Process) → 0 < period → IsNormalEntered place period now old new → new ≡ after_normal place period now old
normal_by place period now old new above (IsNormalEntered.waited delay entry deadline waits enters set is) =
    let same_entry = entry_by period now (natural_of delay) old.period entry above enters ∙ ap (λ one. entry_wait period now one old.period) (sym (ap delay_kept waits)) in
    let same_deadline = entry_deadline_is period now (natural_of delay) old deadline above set ∙ ap (λ one. entry_deadline period now one old) (sym (ap delay_kept waits)) in
    is ∙ (λ i. record old { wait = same_entry i; deadline = same_deadline i; ready_position = place })
    ∙ sym (ap (λ test. cond test (entered_normal place period now old) old) (ap waits_for_normal waits))
normal_by place period now old new above (IsNormalEntered.else_stays differs is) =
    is ∙ sym (ap (λ test. cond test (entered_normal place period now old) old)
    (cannot_hold (waits_for_normal old.wait) (λ waits. let at = for_normal_is old.wait waits in differs at.0 at.1)))

-- owners of mutexes

not_owner : (owner : Option ℕ) (number : ℕ) → ¬ (owner ≡ Some number) → is_owner owner number ≡ false
not_owner owner number differs = cannot_hold (is_owner owner number) (λ is. differs ((owner_tells owner number).0 is))

isnt_owner : (owner : Option ℕ) (number : ℕ) → is_owner owner number ≡ false → ¬ (owner ≡ Some number)
isnt_owner owner number differs is = true≢false (sym ((owner_tells owner number).1 is) ∙ differs)

owner_says : (before after : Option ℕ) (priority number : ℕ) (old new : Process) (did does : Bool) → is_owner before number ≡ did → is_owner after number ≡ does
    → new ≡ on_ownership did does priority old → IsOwnerChange before after priority number old new
owner_says before after priority number old new false true was is_now is = IsOwnerChange.becomes_owner (isnt_owner before number was) ((owner_tells after number).0 is_now) is
owner_says before after priority number old new true false was is_now is = IsOwnerChange.was_owner ((owner_tells before number).0 was) (isnt_owner after number is_now) is
owner_says before after priority number old new true true was is_now is = IsOwnerChange.stays_owner ((owner_tells before number).0 was) ((owner_tells after number).0 is_now) is
owner_says before after priority number old new false false was is_now is = IsOwnerChange.never_owner (isnt_owner before number was) (isnt_owner after number is_now) is

owner_change_by : (before after : Option ℕ) (priority number : ℕ) (old new : Process) → IsOwnerChange before after priority number old new
    → new ≡ on_ownership (is_owner before number) (is_owner after number) priority old
owner_change_by before after priority number old new (IsOwnerChange.becomes_owner was is_now is) = rw (not_owner before number was, (owner_tells after number).1 is_now) is
owner_change_by before after priority number old new (IsOwnerChange.was_owner was is_now is) = rw ((owner_tells before number).1 was, not_owner after number is_now) is
owner_change_by before after priority number old new (IsOwnerChange.stays_owner was is_now is) = rw ((owner_tells before number).1 was, (owner_tells after number).1 is_now) is
owner_change_by before after priority number old new (IsOwnerChange.never_owner was is_now is) = rw (not_owner before number was, not_owner after number is_now) is

mutex_change : (found : Option Mutex) (change : Mutex → Mutex) (number : ℕ) (old new : Process)
    → (new ≡ by_mutex found change number old → IsMutexChange found change number old new) × (IsMutexChange found change number old new → new ≡ by_mutex found change number old)
mutex_change None change number old new = (λ is. is, λ is. is)
mutex_change (Some mutex) change number old new = (
  λ is. owner_says mutex.owner (change mutex).owner mutex.priority number old new (is_owner mutex.owner number) (is_owner (change mutex).owner number) refl refl is,
  λ is. owner_change_by mutex.owner (change mutex).owner mutex.priority number old new is,
)

-- every service
pub setting_is_the_sentence : SettingIsTheSentence
setting_is_the_sentence place period cores partition caller (Request.Process process (ProcessOperation.InitializeCoreAffinity core)) number old new above =
    on_target process number (new ≡ record old { affinity = natural_of core }) (record old { affinity = natural_of core }) old new (λ is. is) (λ is. is)
setting_is_the_sentence place period cores partition caller (Request.Process process ProcessOperation.Start) number old new above =
    on_target process number (IsStarted place period (time_of cores old.affinity) partition.mode (pos 0) old new) (started place period (time_of cores old.affinity) partition.mode (pos 0) old) old new
    (started_says place period (time_of cores old.affinity) partition.mode (pos 0) old new above) (started_by place period (time_of cores old.affinity) partition.mode (pos 0) old new above)
setting_is_the_sentence place period cores partition caller (Request.Process process (ProcessOperation.DelayedStart delay)) number old new above =
    on_target process number (IsStarted place period (time_of cores old.affinity) partition.mode delay old new) (started place period (time_of cores old.affinity) partition.mode delay old) old new
    (started_says place period (time_of cores old.affinity) partition.mode delay old new above) (started_by place period (time_of cores old.affinity) partition.mode delay old new above)
setting_is_the_sentence place period cores partition caller (Request.Process process ProcessOperation.Suspend) number old new above =
    on_target process number (new ≡ record old { suspended = true }) (record old { suspended = true }) old new (λ is. is) (λ is. is)
setting_is_the_sentence place period cores partition caller (Request.Process process ProcessOperation.Resume) number old new above =
    on_target process number (new ≡ record old { suspended = false; ready_position = place }) (record old { suspended = false; ready_position = place }) old new (λ is. is) (λ is. is)
setting_is_the_sentence place period cores partition caller (Request.Process process (ProcessOperation.SetPriority priority)) number old new above =
    on_target process number (new ≡ record old { current_priority = natural_of priority; ready_position = place }) (record old { current_priority = natural_of priority; ready_position = place }) old new (λ is. is) (λ is. is)
setting_is_the_sentence place period cores partition caller (Request.SetPartitionMode next) number old new above =
    (normal_says place period (time_of cores old.affinity) old new above, normal_by place period (time_of cores old.affinity) old new above)
setting_is_the_sentence place period cores partition caller (Request.Object mutex (on.Mutex (MutexOperation.Acquire time_out))) number old new above =
    mutex_change (given_object partition.mutexes mutex) (λ found. (acquired caller time_out found).next) number old new
setting_is_the_sentence place period cores partition caller (Request.Object mutex (on.Mutex MutexOperation.Release)) number old new above =
    mutex_change (given_object partition.mutexes mutex) (λ found. (mutex_released (first_waiter found.discipline found.waiters) found).next) number old new
setting_is_the_sentence place period cores partition caller (Request.Object mutex (on.Mutex (MutexOperation.Reset process))) number old new above =
    mutex_change (given_object partition.mutexes mutex) (λ found. (handed_on (first_waiter found.discipline found.waiters) found).next) number old new
setting_is_the_sentence place period cores partition caller (Request.Process process ProcessOperation.Stop) number old new above =
    (λ is. is ∙ same_if (is_number process number) old, λ is. is ∙ sym (same_if (is_number process number) old))
setting_is_the_sentence place period cores partition caller (Request.Process process ProcessOperation.GetStatus) number old new above =
    (λ is. is ∙ same_if (is_number process number) old, λ is. is ∙ sym (same_if (is_number process number) old))
setting_is_the_sentence place period cores partition caller (Request.Process process ProcessOperation.GetMutexState) number old new above =
    (λ is. is ∙ same_if (is_number process number) old, λ is. is ∙ sym (same_if (is_number process number) old))
setting_is_the_sentence place period cores partition caller (Request.Health (HealthOperation.RaiseError error length message)) number old new above =
    (after_error_says place partition caller number old new, after_error_by place partition caller number old new)
setting_is_the_sentence place period cores partition caller (Request.Health operation) number old new above = (λ is. is, λ is. is)
setting_is_the_sentence place period cores partition caller (Request.Caller CallerOperation.StopSelf) number old new above =
    (stop_set_says place partition caller number old new, stop_set_by place partition caller number old new)
setting_is_the_sentence place period cores partition caller (Request.Caller operation) number old new above = (λ is. is, λ is. is)
setting_is_the_sentence place period cores partition caller _ number old new above = (λ is. is, λ is. is)

-- who falls due

-- the time of a wait has come
come_tells : (due now : ℕ) → Tells (nat_le due now) ((time : ℕ) × (time ≡ due) × (time ≤ now))
come_tells due now = (λ holds. (due, refl, leb-true due now holds), λ has. let same = has.1 in let below = has.2 in let at : due ≤ now = omega (arith, same, below) in grind arith)

due_tells : (one : Wait) (now : ℕ) → Tells (due_by now one) ((time : ℕ) × HasDueTime one time × (time ≤ now))
due_tells (Wait.FirstRelease due) now = come_tells due now
due_tells (Wait.Delay due) now = come_tells due now
due_tells (Wait.Until due) now = come_tells due now
due_tells (Wait.PeriodicRelease due) now = come_tells due now
due_tells (Wait.Suspended (Some due)) now = come_tells due now
due_tells (Wait.Suspended None) now = (impossible, λ has. absurd has.1)
due_tells (Wait.At set (Some due)) now = come_tells due now
due_tells (Wait.At set None) now = (impossible, λ has. absurd has.1)
due_tells _ now = (impossible, λ has. absurd has.1)

pub due_is_the_sentence : DueIsTheSentence
due_is_the_sentence core now process = (
  λ due.
      let parts = and_parts (nat_eq process.affinity core) (due_by now process.wait) due in
      let has = (due_tells process.wait now).0 parts.1 in
      record { affinity = eqb-true process.affinity core parts.0; time = has.0; due = has.1; reached = has.2 },
  λ is. and_from _ _ (eq-eqb process.affinity core is.affinity) ((due_tells process.wait now).1 (is.time, is.due, is.reached)),
)

-- the end of a wait

-- the end of a wait, by what the wait is

ended : (place : ℕ) (old : Process) (one : Wait) → old.wait ≡ one → released place old ≡ wait_ended place (outcome_by (service_of_wait one) (code_when_due one) None []) (record old { wait = one })
ended place old one at =
    ap (λ (waits : Wait). wait_ended place (outcome_by (service_of_wait waits) (code_when_due waits) None []) (record old { wait = waits })) at

woken_from : (place : ℕ) (message : List ℕ) (old : Process) (one : Wait) → old.wait ≡ one
    → woken_by place message old ≡ wait_ended place (outcome_by (service_of_wait one) Code.NoError (value_when_woken one) message) (record old { wait = one })
woken_from place message old one at =
    ap (λ (waits : Wait). wait_ended place (outcome_by (service_of_wait waits) Code.NoError (value_when_woken waits) message) (record old { wait = waits })) at

-- a caller that waits in a set
waits_in_set : (now : ℕ) (asked : Request) (chan : Option ℕ) (process : Process) (set : WaitingSet) → set_of asked chan ≡ Some set
    → wait_of asked chan now process ≡ Wait.At set (due_of_call (time_out_of asked) now)
waits_in_set now (Request.Caller (CallerOperation.TimedWait (pos delay))) chan process set at = never_found at
waits_in_set now (Request.Caller (CallerOperation.TimedWait (negsuc n))) chan process set at = never_found at
waits_in_set now (Request.Caller CallerOperation.PeriodicWait) chan process set at = never_found at
waits_in_set now (Request.Caller (CallerOperation.SuspendSelf time_out)) chan process set at = never_found at
waits_in_set now (Request.Preemption operation) chan process set at = never_found at
waits_in_set now asked chan process set at = ap (λ one. wait_in one (due_of_call (time_out_of asked) now)) at

-- a caller that took a release
taken : (place now : ℕ) (call : CallRecord) (old : Process) (asked : Request) → Renews asked
    → record old { ready_position = place; last_release = release_taken asked old; deadline = deadline_by asked now old; due = Some (outcome_of call Code.NoError); called_at = now }
    ≡ record (taking asked old) { ready_position = place; deadline = deadline_by asked now old; due = Some (outcome_of call Code.NoError); called_at = now }
taken place now call old (Request.Caller (CallerOperation.TimedWait ticks)) renews = refl
taken place now call old (Request.Caller CallerOperation.PeriodicWait) renews = refl
taken place now call old _ renews = absurd renews

-- a caller that is refused keeps its position and its release
kept_so : (place now : ℕ) (call : CallRecord) (old : Process) (given : Code)
    → record old { ready_position = cond (renews call.request && false) place old.ready_position; due = Some (outcome_of call given); called_at = now }
    ≡ record old { due = Some (outcome_of call given); called_at = now }
kept_so place now call old given =
    ap (λ test. record old { ready_position = cond test place old.ready_position; due = Some (outcome_of call given); called_at = now }) (never (renews call.request))
  where
    never : (test : Bool) → (test && false) ≡ false
    never true = refl
    never false = refl

released_says : (place : ℕ) (old new : Process) (one : Wait) (time : ℕ) → old.wait ≡ one → HasDueTime one time → new ≡ released place old → IsReleased place old new
released_says place old new (Wait.FirstRelease due) time at has is = IsReleased.first_release due at (is ∙ ended place old (Wait.FirstRelease due) at)
released_says place old new (Wait.Delay due) time at has is = IsReleased.start_delay due at (is ∙ ended place old (Wait.Delay due) at)
released_says place old new (Wait.Until due) time at has is = IsReleased.delay due at (is ∙ ended place old (Wait.Until due) at)
released_says place old new (Wait.PeriodicRelease due) time at has is = IsReleased.release due at (is ∙ ended place old (Wait.PeriodicRelease due) at)
released_says place old new (Wait.Suspended due) time at has is = IsReleased.suspension due at (is ∙ ended place old (Wait.Suspended due) at)
released_says place old new (Wait.At set due) time at has is = IsReleased.object set due at (is ∙ ended place old (Wait.At set due) at)
released_says place old new Wait.Nothing time at has is = absurd has
released_says place old new Wait.ForLock time at has is = absurd has
released_says place old new (Wait.NormalMode delay) time at has is = absurd has

released_by : (place : ℕ) (old new : Process) → IsReleased place old new → new ≡ released place old
released_by place old new (IsReleased.first_release due at is) = is ∙ sym (ended place old (Wait.FirstRelease due) at)
released_by place old new (IsReleased.start_delay due at is) = is ∙ sym (ended place old (Wait.Delay due) at)
released_by place old new (IsReleased.delay due at is) = is ∙ sym (ended place old (Wait.Until due) at)
released_by place old new (IsReleased.release due at is) = is ∙ sym (ended place old (Wait.PeriodicRelease due) at)
released_by place old new (IsReleased.suspension due at is) = is ∙ sym (ended place old (Wait.Suspended due) at)
released_by place old new (IsReleased.object set due at is) = is ∙ sym (ended place old (Wait.At set due) at)

pub release_is_the_sentence : ReleaseIsTheSentence
release_is_the_sentence place time old new has = (released_says place old new old.wait time refl has, released_by place old new)

woken_says : (place : ℕ) (message : List ℕ) (old new : Process) (one : Wait) → old.wait ≡ one → WaitsForOther one → new ≡ woken_by place message old → IsWoken place message old new
woken_says place message old new (Wait.Suspended due) at waits is = IsWoken.suspension due at (is ∙ woken_from place message old (Wait.Suspended due) at)
woken_says place message old new (Wait.At set due) at waits is = IsWoken.object set due at (is ∙ woken_from place message old (Wait.At set due) at)
woken_says place message old new Wait.ForLock at waits is = IsWoken.lock at (is ∙ woken_from place message old Wait.ForLock at)
woken_says place message old new Wait.Nothing at waits is = absurd waits
woken_says place message old new _ at waits is = absurd waits

woken_back : (place : ℕ) (message : List ℕ) (old new : Process) → IsWoken place message old new → new ≡ woken_by place message old
woken_back place message old new (IsWoken.suspension due at is) = is ∙ sym (woken_from place message old (Wait.Suspended due) at)
woken_back place message old new (IsWoken.object set due at is) = is ∙ sym (woken_from place message old (Wait.At set due) at)
woken_back place message old new (IsWoken.lock at is) = is ∙ sym (woken_from place message old Wait.ForLock at)

pub waking_is_the_sentence : WakingIsTheSentence
waking_is_the_sentence place message old new waits = (woken_says place message old new old.wait refl waits, woken_back place message old new)

pub stopping_is_the_sentence : StoppingIsTheSentence
stopping_is_the_sentence old new = (λ is. is, λ is. is)

-- the caller

-- a call that renews
renews_is : (asked : Request) → renews asked ≡ true → Renews asked
renews_is (Request.Caller (CallerOperation.TimedWait (pos n))) is = ap pos (eqb-true n 0 is)
renews_is (Request.Caller (CallerOperation.TimedWait (negsuc n))) is = impossible is
renews_is (Request.Caller CallerOperation.PeriodicWait) is = tt
renews_is _ is = impossible is

renews_by : (asked : Request) → Renews asked → renews asked ≡ true
renews_by (Request.Caller (CallerOperation.TimedWait ticks)) is = ap is_over is
renews_by (Request.Caller CallerOperation.PeriodicWait) is = refl
renews_by _ is = absurd is

-- a call that doesn't renew takes no release
takes_none : (asked : Request) (process : Process) → ¬ Renews asked → release_taken asked process ≡ process.last_release
takes_none (Request.Caller CallerOperation.PeriodicWait) process not_renewing = absurd (not_renewing tt)
takes_none _ process not_renewing = refl

-- what is begun is what the rule says
begun_is : (now : ℕ) (asked : Request) (chan : Option ℕ) (process : Process) (begun : Wait) → IsBegun now asked chan process begun → begun ≡ wait_of asked chan now process
begun_is now asked chan process begun (IsBegun.delay ticks at is) = is ∙ sym (ap (λ one. wait_of one chan now process) at)
begun_is now asked chan process begun (IsBegun.release at is) = is ∙ sym (ap (λ one. wait_of one chan now process) at)
begun_is now asked chan process begun (IsBegun.suspension time_out at is) = is ∙ sym (ap (λ one. wait_of one chan now process) at)
begun_is now asked chan process begun (IsBegun.lock operation at is) = is ∙ sym (ap (λ one. wait_of one chan now process) at)
begun_is now asked chan process begun (IsBegun.object set at is) = is ∙ sym (waits_in_set now asked chan process set at)

caller_says : (place now : ℕ) (call : CallRecord) (old new : Process) (given : Out) → call.claim.out ≡ given
    → (IsTrue (is_waiting given) → IsBegun now call.request call.claim.chan old (wait_of call.request call.claim.chan now old))
    → new ≡ record (caller_with place now call given old) { called_at = now } → HasCalled place now call old new
caller_says place now call old new Out.Waits at begins is =
    HasCalled.waits (wait_of call.request call.claim.chan now old) (deadline_by call.request now old) at (begins refl) (after_says call.request now old) is
caller_says place now call old new Out.Never at begins is = HasCalled.ends (stopped old) at refl is
caller_says place now call old new (Out.Answer Code.NoError) at begins is =
    elim (renews call.request) as (λ renewed. renews call.request ≡ renewed → new ≡ record old {
      ready_position = cond (renewed && true) place old.ready_position;
      last_release = release_taken call.request old;
      deadline = deadline_by call.request now old;
      due = Some (outcome_of call Code.NoError);
      called_at = now;
    } → HasCalled place now call old new) [
      | true ↦ λ renewed is. HasCalled.is_renewed (deadline_by call.request now old) at (renews_is call.request renewed) (after_says call.request now old)
          (is ∙ taken place now call old call.request (renews_is call.request renewed))
      | false ↦ λ not_renewed is. HasCalled.is_answered (deadline_by call.request now old) at (λ renewed. true≢false (sym (renews_by call.request renewed) ∙ not_renewed)) (after_says call.request now old)
          (is ∙ ap (λ release. record old { last_release = release; deadline = deadline_by call.request now old; due = Some (outcome_of call Code.NoError); called_at = now }) (takes_none call.request old (λ renewed. true≢false (sym (renews_by call.request renewed) ∙ not_renewed))))
    ] refl is
caller_says place now call old new (Out.Answer given) at begins is = HasCalled.is_refused given at (λ same. cc) (is ∙ kept_so place now call old given)

caller_by : (place now : ℕ) (call : CallRecord) (old new : Process) → HasCalled place now call old new → new ≡ record (caller_with place now call call.claim.out old) { called_at = now }
caller_by place now call old new (HasCalled.waits begun deadline at begins set is) =
    let same_wait = begun_is now call.request call.claim.chan old begun begins in
    let same_deadline = after_is call.request now old deadline set in
    is ∙ (λ i. record old { wait = same_wait i; deadline = same_deadline i; called_at = now })
    ∙ sym (ap (λ given. record (caller_with place now call given old) { called_at = now }) at)
caller_by place now call old new (HasCalled.ends one at is_stopped is) =
    is ∙ ap (λ (process : Process). let one : Process = record process { called_at = now } in one) is_stopped ∙ sym (ap (λ given. record (caller_with place now call given old) { called_at = now }) at)
caller_by place now call old new (HasCalled.is_renewed deadline at renewed set is) =
    is ∙ ap (λ one. record (taking call.request old) { ready_position = place; deadline = one; due = Some (outcome_of call Code.NoError); called_at = now }) (after_is call.request now old deadline set)
    ∙ sym (taken place now call old call.request renewed)
    ∙ ap (λ test. record old { ready_position = cond (test && true) place old.ready_position; last_release = release_taken call.request old; deadline = deadline_by call.request now old; due = Some (outcome_of call Code.NoError); called_at = now }) (sym (renews_by call.request renewed))
    ∙ sym (ap (λ given. record (caller_with place now call given old) { called_at = now }) at)
caller_by place now call old new (HasCalled.is_answered deadline at not_renewing set is) =
    is ∙ ap (λ one. record old { deadline = one; due = Some (outcome_of call Code.NoError); called_at = now }) (after_is call.request now old deadline set)
    ∙ ap (λ release. record old { last_release = release; deadline = deadline_by call.request now old; due = Some (outcome_of call Code.NoError); called_at = now }) (sym (takes_none call.request old not_renewing))
    ∙ ap (λ test. record old { ready_position = cond (test && true) place old.ready_position; last_release = release_taken call.request old; deadline = deadline_by call.request now old; due = Some (outcome_of call Code.NoError); called_at = now })
    (sym (cannot_hold (renews call.request) (λ renewed. not_renewing (renews_is call.request renewed))))
    ∙ sym (ap (λ given. record (caller_with place now call given old) { called_at = now }) at)
caller_by place now call old new (HasCalled.is_refused given at differs is) =
    is ∙ refused_so place now call old given differs ∙ sym (ap (λ one. record (caller_with place now call one old) { called_at = now }) at)
  where
    refused_so : (place now : ℕ) (call : CallRecord) (old : Process) (given : Code) → ¬ (given ≡ Code.NoError)
        → record old { due = Some (outcome_of call given); called_at = now } ≡ record (caller_with place now call (Out.Answer given) old) { called_at = now }
    refused_so place now call old Code.NoError differs = absurd (differs refl)
    refused_so place now call old given differs = sym (kept_so place now call old given)

-- the caller after its call, by whether it is a handler that has more errors to take
abbrev after_if : Bool → ℕ → ℕ → CallRecord → Process → Process
after_if more place now call old = record (cond more old (caller_with place now call call.claim.out old)) { called_at = now }

back : (place now : ℕ) (partition : Partition) (call : CallRecord) (old new : Process) → IsCaller place now partition call old new
    → new ≡ caller_after place now (handles_more partition call.who.proc call.request) call old
back place now partition call old new (IsCaller.has_more more is) =
    is ∙ sym (ap (λ test. after_if test place now call old) (more_by partition call.who.proc call.request more))
back place now partition call old new (IsCaller.has_called none called) =
    caller_by place now call old new called ∙ sym (ap (λ test. after_if test place now call old)
    (cannot_hold (handles_more partition call.who.proc call.request) (λ more. none (more_is partition call.who.proc call.request more))))

pub caller_is_the_sentence : CallerIsTheSentence
caller_is_the_sentence place now partition call old new begins = (
  λ is. either_way (handles_more partition call.who.proc call.request)
      (λ more. IsCaller.has_more (more_is partition call.who.proc call.request more) (is ∙ ap (λ test. after_if test place now call old) more))
      (λ none. IsCaller.has_called (λ more. true≢false (sym (more_by partition call.who.proc call.request more) ∙ none))
      (caller_says place now call old new call.claim.out refl begins (is ∙ ap (λ test. after_if test place now call old) none))),
  back place now partition call old new,
)

pub creation_is_the_sentence : CreationIsTheSentence
creation_is_the_sentence core name priority period time_capacity = record {
  name = refl;
  base_priority = refl;
  current_priority = refl;
  retained_priority = refl;
  affinity = refl;
  period = refl;
  time_capacity = refl;
  deadline = refl;
  alive = refl;
  faulted = refl;
  suspended = refl;
  wait = refl;
  due = refl;
  last_release = refl;
  ready_position = refl;
  called_at = refl;
}
