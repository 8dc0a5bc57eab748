-- What a call makes of the lock of its partition.
use Rattle.std.proofs.Common.{◌≡◌, ℕ, ◌<◌, List, [], ◌∷◌, ◌++◌, Option, Some, None, Bool, true, false, nat_eq, nat_le, nat_lt, ◌&&◌, refl, sym, ap, ◌∙◌, arith, cond}
use Rattle.std.proofs.lemmas.Bool.Decides.{nat_tests}
use Rattle.apex_types.specs.declared.code.Code.TheVariants as code
use Rattle.apex_types.specs.declared.limits.TheConstants.{GREATEST_LOCK_LEVEL}
use Rattle.apex_types.specs.declared.operation.{CallerOperation.CallerOperation, LockOperation.LockOperation}
use Rattle.apex_types.specs.declared.record.Body.TheVariants.{Call}
use Rattle.apex_types.specs.declared.record.Call.{Call as CallRecord}
use Rattle.apex_types.specs.declared.record.Out.TheVariants as out
use Rattle.apex_types.specs.declared.request.Request.TheVariants as request
use Rattle.apex_machine.specs.declared.condition.Condition.{Condition}
use Rattle.apex_machine.specs.declared.state.CoreState.{CoreState}
use Rattle.apex_machine.specs.declared.state.Entry.{Entry}
use Rattle.apex_machine.specs.After.{is_done, lock_called}
use Rattle.apex_machine.specs.Conditions.{when}
use Rattle.apex_machine.specs.Configuration.{Configuration}
use Rattle.apex_machine.specs.Demands.{AllHold, answer_demands}
use Rattle.apex_machine.specs.Locks.{enters_lock, first_for_lock, lock_by, lock_effect, lock_left, lock_stopped, lock_waiters_after, locked_from, passed_on, passed_to, unlocked}
use Rattle.apex_machine.specs.Objects.{is_owner}
use Rattle.apex_machine.specs.ServiceConditions.{conditions_of}
use Rattle.apex_machine.specs.State.{Lock, Partition, is_named}
use Rattle.apex_machine.specs.Waiting.{entry_of, is_restart, is_waiting, stop_of}
use Rattle.apex_laws.specs.Laws.{AllEntries}
use Rattle.apex_laws.proofs.SoundParts.{running_is_in_no_set}
use Rattle.apex_laws.proofs.Waiters.{all_without}
use Rattle.partition_objects.specs.Locks.{Needs, after, after_stop, waiters_after}
use Rattle.wait_set.proofs.Calls.{no_place, only_named_leave}
use Rattle.wait_set.proofs.Last.{enters_last}
use Rattle.wait_set.specs.Actors.{entry_with, joined_by, left_by}
use Rattle.wait_set.specs.Sets.{IsNewInEach, entered}
use Rattle.partition_state.specs.Calls.{IsClear, actor_of}
use Rattle.partition_state.proofs.Clear.{nil_left, nil_right}
use Rattle.partition_state.proofs.Sets.{are_before}

-- the rules leave the processes that wait

passed_keeps : (first : Option Entry) (lock : Lock) → (passed_to first lock).waiters ≡ lock.waiters
passed_keeps None lock = refl
passed_keeps (Some waiter) lock = refl

stopped_keeps : (number : ℕ) (lock : Lock) → (lock_stopped number lock).waiters ≡ lock.waiters
stopped_keeps number lock = by (is_owner lock.owner number)
  where
    by : (b : Bool) → (cond b (passed_on lock) lock).waiters ≡ lock.waiters
    by true = passed_keeps (first_for_lock lock) lock
    by false = refl

locked_keeps : (owner : Option ℕ) (caller : ℕ) (lock : Lock) → (locked_from owner caller lock).next.waiters ≡ lock.waiters
locked_keeps None caller lock = refl
locked_keeps (Some owner) caller lock = by (nat_eq owner caller) refl
  where
    by : (b : Bool) → nat_eq owner caller ≡ b → (locked_from (Some owner) caller lock).next.waiters ≡ lock.waiters
    by true e = rw e refl
    by false e = rw e refl

unlocked_keeps : (lock : Lock) → (unlocked lock).next.waiters ≡ lock.waiters
unlocked_keeps lock = by (nat_lt 1 lock.level) refl
  where
    by : (b : Bool) → nat_lt 1 lock.level ≡ b → (unlocked lock).next.waiters ≡ lock.waiters
    by true e = rw e refl
    by false e = rw e (passed_keeps (first_for_lock lock) lock)

effect_keeps : (caller : ℕ) (operation : LockOperation) (lock : Lock) → (lock_effect caller operation lock).next.waiters ≡ lock.waiters
effect_keeps caller LockOperation.Lock lock = locked_keeps lock.owner caller lock
effect_keeps caller LockOperation.Unlock lock = unlocked_keeps lock

-- what is answered

locked_done : (owner : Option ℕ) (caller : ℕ) (lock : Lock) → is_done (locked_from owner caller lock).answer.out ≡ true
locked_done None caller lock = refl
locked_done (Some owner) caller lock = by (nat_eq owner caller) refl
  where
    by : (b : Bool) → nat_eq owner caller ≡ b → is_done (locked_from (Some owner) caller lock).answer.out ≡ true
    by true e = rw e refl
    by false e = rw e refl

unlocked_out : (lock : Lock) → (unlocked lock).answer.out ≡ out.Answer code.NoError
unlocked_out lock = by (nat_lt 1 lock.level) refl
  where
    by : (b : Bool) → nat_lt 1 lock.level ≡ b → (unlocked lock).answer.out ≡ out.Answer code.NoError
    by true e = rw e refl
    by false e = rw e refl

effect_done : (caller : ℕ) (operation : LockOperation) (lock : Lock) → is_done (lock_effect caller operation lock).answer.out ≡ true
effect_done caller LockOperation.Lock lock = locked_done lock.owner caller lock
effect_done caller LockOperation.Unlock lock = ap is_done (unlocked_out lock)

-- the waiting set

-- all places are below this one
abbrev pub AreBelow : ℕ → List Entry → Type 0
AreBelow place entries = AllEntries (λ entry. entry.place < place) entries

-- a call that enters it not, and neither stops another process nor restarts the partition: those leave that it names
set_left : (place : ℕ) (call : CallRecord) (entries : List Entry) → stop_of call.request ≡ None → is_restart call ≡ false → enters_lock call ≡ false
    → lock_waiters_after place (Call call) entries ≡ left_by call.claim entries
set_left place call entries none goes_on outside = rw (outside, only_named_leave call none goes_on entries) refl

-- and a caller that waits enters
set_joined : (place : ℕ) (call : CallRecord) (entries : List Entry) → call.request ≡ request.Preemption LockOperation.Lock → AreBelow place entries
    → lock_waiters_after place (Call call) entries ≡ joined_by (actor_of place call) call.claim [] entries
set_joined place call entries is before =
    rw (can, only_named_leave call (rw is refl) (rw is refl) entries) (by (is_waiting call.claim.out))
  where
    IsBelow : Entry → Type 0
    IsBelow entry = entry.place < place

    and_true : (b : Bool) → (b && true) ≡ b
    and_true true = refl
    and_true false = refl

    can : enters_lock call ≡ is_waiting call.claim.out
    can = rw is (and_true (is_waiting call.claim.out))

    enters : Entry
    enters = entry_with (actor_of place call) []

    same : entry_of place call ≡ enters
    same = rw is refl

    last : entered enters (left_by call.claim entries) ≡ left_by call.claim entries ++ enters ∷ []
    last = enters_last enters (left_by call.claim entries)
        (are_before place (left_by call.claim entries)
        (all_without IsBelow IsBelow (λ who. is_named who call.claim.woken) (λ entry stays below. below) entries before))

    by : (b : Bool) → cond b (left_by call.claim entries ++ entry_of place call ∷ []) (left_by call.claim entries)
        ≡ cond b (entered enters (left_by call.claim entries)) (left_by call.claim entries)
    by true = ap (λ one. left_by call.claim entries ++ one ∷ []) same ∙ sym last
    by false = refl

waiters_become : (place : ℕ) (call : CallRecord) (operation : LockOperation) (lock : Lock) → call.request ≡ request.Preemption operation → AreBelow place lock.waiters
    → call.claim.out ≡ (lock_effect call.who.proc operation lock).answer.out
    → lock_waiters_after place (Call call) lock.waiters ≡ waiters_after (actor_of place call) operation call.claim lock.waiters
waiters_become place call LockOperation.Lock lock is before answered = set_joined place call lock.waiters is before
waiters_become place call LockOperation.Unlock lock is before answered =
    let done : call.claim.out ≡ out.Answer code.NoError = answered ∙ unlocked_out lock in
    set_left place call lock.waiters (rw is refl) (rw is refl) (rw done refl)

-- the lock

-- after an operation on it that is claimed as it is answered
pub lock_used : (place : ℕ) (call : CallRecord) (operation : LockOperation) (lock : Lock) → call.request ≡ request.Preemption operation → AreBelow place lock.waiters
    → AllHold (answer_demands (lock_effect call.who.proc operation lock).answer call.claim)
    → lock_called place call lock ≡ after (actor_of place call) operation call.claim lock
lock_used place call operation lock is before holds =
    ap (lock_left place (Call call)) reached
    ∙ ap (λ entries. record next { waiters = lock_waiters_after place (Call call) entries }) (effect_keeps call.who.proc operation lock)
    ∙ ap (λ entries. record next { waiters = entries }) (waiters_become place call operation lock is before holds.0)
  where
    next : Lock
    next = (lock_effect call.who.proc operation lock).next

    done : is_done call.claim.out ≡ true
    done = ap is_done holds.0 ∙ effect_done call.who.proc operation lock

    reached : cond (is_done call.claim.out) (lock_by call.who.proc call.request lock) lock ≡ next
    reached = rw (done, is) refl

-- after a STOP_SELF, which does not return
pub lock_self_stopped : (place : ℕ) (call : CallRecord) (lock : Lock) → call.request ≡ request.Caller CallerOperation.StopSelf → call.claim.out ≡ out.Never
    → lock_called place call lock ≡ after_stop call.who.proc call.claim.woken lock
lock_self_stopped place call lock is never =
    ap (lock_left place (Call call)) reached
    ∙ ap (λ entries. record next { waiters = lock_waiters_after place (Call call) entries }) (stopped_keeps call.who.proc lock)
    ∙ ap (λ entries. record next { waiters = entries }) (set_left place call lock.waiters (rw is refl) (rw is refl) (rw never refl))
  where
    next : Lock
    next = lock_stopped call.who.proc lock

    reached : cond (is_done call.claim.out) (lock_by call.who.proc call.request lock) lock ≡ next
    reached = rw (never, is) refl

-- who asks for it

-- the places in its waiting set are below that of the call
pub lock_before : (configuration : Configuration) (cores : List CoreState) (place core : ℕ) (partition : Partition) (call : CallRecord)
    → IsClear configuration cores place core partition call → AreBelow place partition.lock.waiters
lock_before configuration cores place core partition call clear =
    (running_is_in_no_set call.who.part place core cores partition call.who clear.sound clear.caller.1.1.0).1.1

-- the caller is new there
pub lock_new : (configuration : Configuration) (cores : List CoreState) (place core : ℕ) (partition : Partition) (call : CallRecord)
    → IsClear configuration cores place core partition call → IsNewInEach (entry_with (actor_of place call) []) (partition.lock.waiters ∷ [])
lock_new configuration cores place core partition call clear =
    let apart = (running_is_in_no_set call.who.part place core cores partition call.who clear.sound clear.caller.1.1.0).1.0 in
    ((apart, no_place place partition.lock.waiters (are_before place partition.lock.waiters (lock_before configuration cores place core partition call clear))), tt)

-- if no condition holds, the level can rise
when_is : (passes : Bool) (one : Condition) → when passes one ≡ [] → passes ≡ false
when_is true one e = cc
when_is false one e = refl

not_greatest : (level : ℕ) → nat_le GREATEST_LOCK_LEVEL level ≡ false → level < GREATEST_LOCK_LEVEL
not_greatest level less = grind (arith, nat_tests)

pub lock_needed : (configuration : Configuration) (now : ℕ) (partition : Partition) (place : ℕ) (call : CallRecord) (operation : LockOperation)
    → conditions_of configuration now call.who partition call.request ≡ [] → call.request ≡ request.Preemption operation → Needs (actor_of place call) operation partition.lock
lock_needed configuration now partition place call LockOperation.Lock none is = λ owns.
    let least : (is_owner partition.lock.owner call.who.proc && nat_le GREATEST_LOCK_LEVEL partition.lock.level) ≡ false =
    when_is _ _ (nil_right _ _ (nil_left _ _ (rw is at none))) in
    let less : nat_le GREATEST_LOCK_LEVEL partition.lock.level ≡ false = rw owns at least in
    not_greatest partition.lock.level less
lock_needed configuration now partition place call LockOperation.Unlock none is = tt
