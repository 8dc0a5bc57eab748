-- Which own calls leave the lock of their partition unchanged.
use Rattle.std.proofs.Common.{◌≡◌, ℕ, List, [], ◌∷◌, true, false, cond, ℤ, Option, Some, None, is_some, refl, sym, ap, subst, ◌∙◌, true≢false}
use Rattle.std.proofs.lemmas.Bool.{and_parts}
use Rattle.apex_laws.proofs.Common.{Configuration, AllHold, Call, CallerOperation, Claim, Condition, CoreState, IsSoundPart, Lock, OtherCallsLeaveLock, Partition, Process, ProcessOperation, RefusedLeavesLock, Request, Wait, Who, answer_of, channel_of}
use Rattle.apex_laws.proofs.Common.{conditions_of, created, ends_wait, enters_lock, entries_at, is_done, is_for_lock, is_named, is_no_error, is_of_lock, is_suspension, is_waiting, item_at, lock_by, lock_left, lock_waiters_after}
use Rattle.apex_laws.proofs.Common.{names_one_of, natural_of, outcome_demands, stop_of, stops_one, waits_for_lock, time_of}
use Rattle.apex_laws.proofs.Booleans.{by_test, cannot_hold, neither, not_first, not_second}
use Rattle.apex_laws.proofs.Codes.{no_error_is_done}
use Rattle.apex_laws.proofs.EnteringSets.{not_done_waits_not}
use Rattle.apex_laws.proofs.PartObjects.{stops_nobody}
use Rattle.apex_laws.proofs.Restarts.{goes_on, not_done_goes_on, restarts_none}
use Rattle.apex_laws.proofs.SoundParts.{WaitsForLock, WaitsInSet}
use Rattle.apex_laws.proofs.Waiters.{all_weaker, none_leaves}
use Rattle.apex_laws.proofs.WaitersOf.{not_named}
use Rattle.apex_laws.proofs.Wakes.{answer_silent, answer_wakes, created_is, lock_waits_not, nobody}

-- calls that are neither of the lock nor a stop

-- what they make of the lock
lock_kept : (caller : ℕ) (asked : Request) (lock : Lock) → is_of_lock asked ≡ false → stops_one asked ≡ false → lock_by caller asked lock ≡ lock
lock_kept caller (Request.Preemption operation) lock no_lock no_stop = absurd (true≢false no_lock)
lock_kept caller (Request.Process process ProcessOperation.Stop) lock no_lock no_stop = absurd (true≢false no_stop)
lock_kept caller (Request.Caller CallerOperation.StopSelf) lock no_lock no_stop = absurd (true≢false no_stop)
lock_kept caller _ lock no_lock no_stop = refl

-- they stop no process
no_target : (asked : Request) → stops_one asked ≡ false → is_some (stop_of asked) ≡ false
no_target (Request.Process process ProcessOperation.Stop) no_stop = absurd (true≢false no_stop)
no_target _ no_stop = refl

-- who suspended itself does not wait for the lock
suspended_not : (one : Wait) → is_suspension one ≡ true → is_for_lock one ≡ true → ⊥
suspended_not (Wait.Suspended due) suspends for_lock = true≢false (sym for_lock)
suspended_not _ suspends for_lock = true≢false (sym suspends)

suspended_apart : (partition : Partition) (process : ℤ) (target : Process) → created partition.table process ≡ Some target → is_suspension target.wait ≡ true
    → waits_for_lock (item_at partition.table (natural_of process)) ≡ true → ⊥
suspended_apart partition process target is suspends waits =
    let at = created_is partition.table process target is in
    let number : natural_of process ≡ at.0 = ap natural_of at.1 in
    let here : waits_for_lock (Some target) ≡ true =
    subst (λ one. waits_for_lock one ≡ true) at.2 (subst (λ one. waits_for_lock (item_at partition.table one) ≡ true) number waits) in
    suspended_not target.wait suspends (and_parts target.alive _ here).1

-- a process that such a call names does not wait for the lock
named_apart : (configuration : Configuration) (number place : ℕ) (cores : List CoreState) (core : ℕ) (partition : Partition) (caller : Who) (asked : Request) (claim : Claim) → IsSoundPart number place partition
    → is_of_lock asked ≡ false → stops_one asked ≡ false → (conditions : List Condition) (channel : Option ℕ)
    → AllHold (outcome_demands conditions channel number asked (answer_of configuration cores core caller partition asked) claim)
    → (who : Who) → who.part ≡ number → waits_for_lock (item_at partition.table who.proc) ≡ true → is_named who claim.woken ≡ true → ⊥
named_apart configuration number place cores core partition caller asked claim sound no_lock no_stop (condition ∷ conditions) channel hold who here waits named = nobody who claim.woken hold.1.1.1.1.0 named
named_apart configuration number place cores core partition caller asked claim sound no_lock no_stop [] (Some channel) hold who here waits named =
    true≢false (sym named ∙ not_named who claim.woken (subst (λ part. names_one_of part claim.woken ≡ false) (sym here) hold.1.1.0))
named_apart configuration number place cores core partition caller asked claim sound no_lock no_stop [] None hold who here waits named =
    answer_wakes (λ one. waits_for_lock (item_at partition.table one.proc) ≡ true → ⊥) configuration cores core caller partition asked
    (λ other used. all_weaker (WaitsInSet number other partition) (λ entry. waits_for_lock (item_at partition.table entry.who.proc) ≡ true → ⊥)
    (λ entry is also. lock_waits_not other (item_at partition.table entry.who.proc) also is.1) (entries_at partition other) (sound.is_member other))
    (λ process target is suspends waits. suspended_apart partition process target is suspends waits)
    (λ gives. absurd (true≢false (sym gives ∙ neither (is_of_lock asked) (stops_one asked) no_lock no_stop)))
    who (sym (hold.1.1.1.1.0 who) ∙ named) waits

pub other_calls_leave_lock : OtherCallsLeaveLock
other_calls_leave_lock configuration number place core cores partition call is no_lock no_stop no_restart =
    let same : cond (is_done call.claim.out) (lock_by call.who.proc call.request partition.lock) partition.lock ≡ partition.lock =
    by_test (λ (one : Lock). one ≡ partition.lock) (is_done call.claim.out) (lock_by call.who.proc call.request partition.lock) partition.lock
    (λ done. lock_kept call.who.proc call.request partition.lock no_lock no_stop) (λ not_done. refl) in
    let off : enters_lock call ≡ false = not_second (is_waiting call.claim.out) (is_of_lock call.request) no_lock in
    let set : lock_waiters_after place (Call call) partition.lock.waiters ≡ partition.lock.waiters =
    rw off (none_leaves (WaitsForLock number partition) (ends_wait call)
    (λ entry is_member. goes_on call entry.who (restarts_none call entry.who.part no_restart)
    (cannot_hold (is_named entry.who call.claim.woken) (named_apart configuration number place cores core partition call.who call.request call.claim is.sound no_lock no_stop
    (conditions_of configuration (time_of cores core) call.who partition call.request) (channel_of partition call.request) is.demands.1.1.1.1.1.1 entry.who is_member.0 is_member.1))
    (stops_nobody call entry.who (not_first (is_some (stop_of call.request)) (is_no_error call.claim.out) (no_target call.request no_stop))))
    partition.lock.waiters is.sound.lock.is_member) in
    ap (lock_left place (Call call)) same ∙ (λ i. record partition.lock { waiters = set i })

-- calls that are not done

-- they name no process of the caller's partition
names_none : (configuration : Configuration) (number : ℕ) (cores : List CoreState) (core : ℕ) (partition : Partition) (caller : Who) (asked : Request) (claim : Claim) (conditions : List Condition) (channel : Option ℕ)
    → AllHold (outcome_demands conditions channel number asked (answer_of configuration cores core caller partition asked) claim) → is_no_error claim.out ≡ false → is_done claim.out ≡ false
    → (who : Who) → who.part ≡ number → is_named who claim.woken ≡ false
names_none configuration number cores core partition caller asked claim (condition ∷ conditions) channel hold not_ok not_done who here = ap (is_named who) hold.1.1.1.1.0
names_none configuration number cores core partition caller asked claim [] (Some channel) hold not_ok not_done who here =
    not_named who claim.woken (subst (λ part. names_one_of part claim.woken ≡ false) (sym here) hold.1.1.0)
names_none configuration number cores core partition caller asked claim [] None hold not_ok not_done who here =
    hold.1.1.1.1.0 who ∙ ap (is_named who) (answer_silent configuration cores core caller partition asked (ap is_no_error (sym hold.1.0) ∙ not_ok) (ap is_done (sym hold.1.0) ∙ not_done))

pub refused_leaves_lock : RefusedLeavesLock
refused_leaves_lock configuration number place core cores partition call is not_done =
    let not_ok : is_no_error call.claim.out ≡ false = cannot_hold (is_no_error call.claim.out) (λ ok. true≢false (sym (no_error_is_done call.claim.out ok) ∙ not_done)) in
    let off : enters_lock call ≡ false = not_first (is_waiting call.claim.out) (is_of_lock call.request) (not_done_waits_not call.claim.out not_done) in
    let set : lock_waiters_after place (Call call) partition.lock.waiters ≡ partition.lock.waiters =
    rw off (none_leaves (WaitsForLock number partition) (ends_wait call)
    (λ entry is_member. goes_on call entry.who (restarts_none call entry.who.part (not_done_goes_on call not_done))
    (names_none configuration number cores core partition call.who call.request call.claim (conditions_of configuration (time_of cores core) call.who partition call.request) (channel_of partition call.request)
    is.demands.1.1.1.1.1.1 not_ok not_done entry.who is_member.0)
    (not_first (is_no_error call.claim.out) _ not_ok)) partition.lock.waiters is.sound.lock.is_member) in
    ap (λ test. lock_left place (Call call) (cond test (lock_by call.who.proc call.request partition.lock) partition.lock)) not_done
    ∙ (λ i. record partition.lock { waiters = set i })
