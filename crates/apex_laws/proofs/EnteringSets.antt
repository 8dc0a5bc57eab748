-- Whose waits an own call ends, by its outcome: no process's if it does not answer NO_ERROR, else those of the processes that its service's
-- answer names.
use Rattle.std.proofs.Common.{◌≡◌, ℕ, List, [], ◌∷◌, ◌++◌, true, false, cond, nat_eq, ℤ, Option, Some, None, is_some, refl, sym, ap, subst, ◌∙◌, true≢false, ◌&&◌, ◌||◌}
use Rattle.apex_laws.proofs.Common.{Configuration, AllHold, Answer, Call, Claim, Condition, LetsGoAsAnswered, OnlyDoneLetsGo, Out, Partition, RefusedLeavesObjects, Request, WaitingSet, Who, answer_of, channel_of, conditions_of, each_set, ends_wait, enters}
use Rattle.apex_laws.proofs.Common.{entries_at, entry_of, is_done, is_named, is_no_error, is_target, is_the_set, is_waiting, names_one_of, objects_by, outcome_demands, set_after, set_of, stop_of, stops, without}
use Rattle.apex_laws.proofs.Common.{CoreState, IsSoundPart, item_at, waits_for_lock, time_of}
use Rattle.apex_laws.proofs.Booleans.{cannot_hold, impossible, never_found, not_first, or_false}
use Rattle.apex_laws.proofs.Codes.{no_error_is_done}
use Rattle.apex_laws.proofs.Objects.{Leaves, sets_stay}
use Rattle.apex_laws.proofs.PartObjects.{stops_nobody}
use Rattle.apex_laws.proofs.Restarts.{done_goes_on, goes_on, not_done_goes_on, restarts_none}
use Rattle.apex_laws.proofs.SoundParts.{demands_none, WaitsForLock, WaitsInSet}
use Rattle.apex_laws.proofs.Waiters.{all_weaker, none_leaves, without_same}
use Rattle.apex_laws.proofs.WaitersOf.{not_named}
use Rattle.apex_laws.proofs.Wakes.{answer_quiet, lock_waits_not}

-- claims

-- a claim that is not NO_ERROR names no process of the caller's partition but one that waits for the lock
names_awaiting : (configuration : Configuration) (number place : ℕ) (cores : List CoreState) (core : ℕ) (partition : Partition) (caller : Who) (asked : Request) (claim : Claim) → IsSoundPart number place partition
    → (conditions : List Condition) (channel : Option ℕ)
    → AllHold (outcome_demands conditions channel number asked (answer_of configuration cores core caller partition asked) claim) → is_no_error claim.out ≡ false
    → (who : Who) → who.part ≡ number → is_named who claim.woken ≡ true → waits_for_lock (item_at partition.table who.proc) ≡ true
names_awaiting configuration number place cores core partition caller asked claim sound (condition ∷ conditions) channel hold not_done who here named =
    absurd (true≢false (sym named ∙ ap (is_named who) hold.1.1.1.1.0))
names_awaiting configuration number place cores core partition caller asked claim sound [] (Some channel) hold not_done who here named =
    absurd (true≢false (sym named ∙ not_named who claim.woken (subst (λ part. names_one_of part claim.woken ≡ false) (sym here) hold.1.1.0)))
names_awaiting configuration number place cores core partition caller asked claim sound [] None hold not_done who here named =
    answer_quiet (λ one. waits_for_lock (item_at partition.table one.proc) ≡ true) configuration cores core caller partition asked
    (all_weaker (WaitsForLock number partition) (λ entry. waits_for_lock (item_at partition.table entry.who.proc) ≡ true) (λ entry is_member. is_member.1) partition.lock.waiters sound.lock.is_member)
    (ap is_no_error (sym hold.1.0) ∙ not_done) who (sym (hold.1.1.1.1.0 who) ∙ named)

-- a claim of a call through no channel names the processes that the service's answer names
names_as_answered : (number : ℕ) (asked : Request) (answer : Answer) (claim : Claim) (conditions : List Condition) (channel : Option ℕ) → conditions ≡ [] → channel ≡ None
    → AllHold (outcome_demands conditions channel number asked answer claim) → (who : Who) → is_named who claim.woken ≡ is_named who answer.woken
names_as_answered number asked answer claim [] None none off hold who = hold.1.1.1.1.0 who
names_as_answered number asked answer claim [] (Some channel) none off hold who = never_found (sym off)
names_as_answered number asked answer claim (condition ∷ conditions) channel none off hold who = cc

-- sets

pub only_done_lets_go : OnlyDoneLetsGo
only_done_lets_go configuration number place core cores partition call is not_done no_restart wanted =
    let stays : without (ends_wait call) (entries_at partition wanted) ≡ entries_at partition wanted =
    none_leaves (WaitsInSet number wanted partition) (ends_wait call)
    (λ entry is_member. goes_on call entry.who (restarts_none call entry.who.part no_restart)
    (cannot_hold (is_named entry.who call.claim.woken) (λ named. lock_waits_not wanted (item_at partition.table entry.who.proc)
    (names_awaiting configuration number place cores core partition call.who call.request call.claim is.sound (conditions_of configuration (time_of cores core) call.who partition call.request) (channel_of partition call.request)
    is.demands.1.1.1.1.1.1 not_done entry.who is_member.0 named) is_member.1))
    (not_first (is_no_error call.claim.out) (nat_eq entry.who.part call.who.part && is_target (stop_of call.request) entry.who.proc) not_done))
    (entries_at partition wanted) (is.sound.is_member wanted) in
    λ i. cond (enters call wanted) (stays i ++ entry_of place call ∷ []) (stays i)

-- an answer doesn't wait
not_waiting : (given : Out) → is_no_error given ≡ true → is_waiting given ≡ false
not_waiting Out.Waits is = impossible is
not_waiting Out.Never is = refl
not_waiting (Out.Answer code) is = refl

pub lets_go_as_answered : LetsGoAsAnswered
lets_go_as_answered configuration number place core cores partition call is no_error no_stop no_channel wanted =
    let answer = answer_of configuration cores core call.who partition call.request in
    let conditions = conditions_of configuration (time_of cores core) call.who partition call.request in
    let none : conditions ≡ [] = demands_none conditions (channel_of partition call.request) number call.request answer call.claim
    is.demands.1.1.1.1.1.1 (no_error_is_done call.claim.out no_error) in
    let off : enters call wanted ≡ false = not_first (is_waiting call.claim.out) (is_the_set wanted (set_of call.request call.claim.chan)) (not_waiting call.claim.out no_error) in
    let stopped : (who : Who) → stops call who ≡ false = λ who. stops_nobody call who (ap (λ (one : Option ℤ). is_some one && is_no_error call.claim.out) no_stop) in
    let leave : (who : Who) → ends_wait call who ≡ is_named who answer.woken =
    λ who. (λ i. restarts_none call who.part (done_goes_on call no_error) i || (is_named who call.claim.woken || stopped who i)) ∙ or_false (is_named who call.claim.woken)
    ∙ names_as_answered number call.request answer call.claim conditions (channel_of partition call.request) none no_channel is.demands.1.1.1.1.1.1 who in
    rw off (without_same (ends_wait call) (λ who. is_named who answer.woken) leave (entries_at partition wanted))

-- the objects

-- what isn't done doesn't wait, and isn't NO_ERROR
pub not_done_waits_not : (given : Out) → is_done given ≡ false → is_waiting given ≡ false
not_done_waits_not Out.Waits off = absurd (true≢false off)
not_done_waits_not Out.Never off = refl
not_done_waits_not (Out.Answer code) off = refl

pub refused_leaves_objects : RefusedLeavesObjects
refused_leaves_objects configuration number place core cores partition call is not_done =
    let not_ok : is_no_error call.claim.out ≡ false = cannot_hold (is_no_error call.claim.out) (λ ok. true≢false (sym (no_error_is_done call.claim.out ok) ∙ not_done)) in
    let leaves : (wanted : WaitingSet) → Leaves (set_after place (Call call)) partition wanted =
    λ wanted. only_done_lets_go configuration number place core cores partition call is not_ok (not_done_goes_on call not_done) wanted
    ∙ (λ i. cond (not_first (is_waiting call.claim.out) (is_the_set wanted (set_of call.request call.claim.chan)) (not_done_waits_not call.claim.out not_done) i)
    (entries_at partition wanted ++ entry_of place call ∷ []) (entries_at partition wanted)) in
    (λ i. each_set (set_after place (Call call)) (cond (not_done i) (objects_by configuration call.who call.claim.val call.request partition) partition))
    ∙ sets_stay (set_after place (Call call)) partition is.sound.objects (λ wanted off. leaves wanted)
