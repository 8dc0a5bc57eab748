-- What each operation on the lock of a partition computes, and what a stop makes of it, is exactly what the sentences say.
use Rattle.std.proofs.Common.{◌≡◌, List, [], Option, Some, None, option_map, true, false, cond, refl, sym, ap, subst, ◌∙◌, arith, true≢false, ℕ, nat_eq, nat_lt}
use Rattle.std.proofs.lemmas.Bool.{eqb-true, eq-eqb, eqb-false, ltb-true}
use Rattle.std.specs.Option.{option_to_list}
use Rattle.apex_laws.proofs.Common.{AreApart, Discipline, Effect, Entry, IsLocking, IsPassedOn, IsStoppedOwner, IsUnlocking, Lock, LockIsTheSentence, Who, first_for_lock, first_waiter, freed_by_stop, given_up, gives_level, is_owner}
use Rattle.apex_laws.proofs.Common.{lock_stopped, locked, locked_again, locked_from, next_owner, not_locked, passed_on, passed_to, unlocked, unlocked_once}
use Rattle.apex_laws.proofs.Booleans.{by_test, cannot_hold, either_way}
use Rattle.apex_laws.proofs.ConditionTests.{owner_tells}
use Rattle.apex_laws.proofs.ObjectRules.{first_by, first_is, no_first}

-- locking

locking_says : (caller : ℕ) (lock : Lock) (effect : Effect Lock) (owner : Option ℕ) → lock.owner ≡ owner → effect ≡ locked_from owner caller lock → IsLocking caller lock effect
locking_says caller lock effect None free is = IsLocking.was_free free is
locking_says caller lock effect (Some owner) owned is =
    by_test (λ (one : Effect Lock). effect ≡ one → IsLocking caller lock effect) (nat_eq owner caller) (locked_again lock) (not_locked lock)
    (λ own is. IsLocking.once_more (owned ∙ ap Some (eqb-true owner caller own)) is) (λ other is. IsLocking.of_another owner owned (eqb-false owner caller other) is) is

locking_by : (caller : ℕ) (lock : Lock) (effect : Effect Lock) → IsLocking caller lock effect → effect ≡ locked caller lock
locking_by caller lock effect (IsLocking.was_free free is) = is ∙ sym (ap (λ owner. locked_from owner caller lock) free)
locking_by caller lock effect (IsLocking.once_more own is) =
    is ∙ sym (ap (λ owner. locked_from owner caller lock) own ∙ ap (λ same. cond same (locked_again lock) (not_locked lock)) (eq-eqb caller caller refl))
locking_by caller lock effect (IsLocking.of_another owner owned differs is) =
    let test : nat_eq owner caller ≡ false = cannot_hold (nat_eq owner caller) (λ same. differs (eqb-true owner caller same)) in
    is ∙ sym (ap (λ one. locked_from one caller lock) owned ∙ ap (λ same. cond same (locked_again lock) (not_locked lock)) test)

-- the lock given up

passes_says : (lock : Lock) → AreApart lock.waiters → (first : Option Entry) → first_for_lock lock ≡ first
    → IsPassedOn lock (option_to_list (option_map (λ entry. entry.who) first)) (passed_to first lock)
passes_says lock apart None none = IsPassedOn.freed (no_first Discipline.Priority lock.waiters none apart) refl refl
passes_says lock apart (Some waiter) first = IsPassedOn.to_first waiter (first_is Discipline.Priority lock.waiters waiter first) refl refl

passes_by : (lock : Lock) (woken : List Who) (next : Lock) → AreApart lock.waiters → IsPassedOn lock woken next → (woken ≡ next_owner lock) × (next ≡ passed_on lock)
passes_by lock woken next apart (IsPassedOn.to_first waiter first wakes passes) =
    let at : first_for_lock lock ≡ Some waiter = first_by Discipline.Priority lock.waiters waiter apart first in
    (wakes ∙ sym (ap (λ one. option_to_list (option_map (λ entry. entry.who) one)) at), passes ∙ sym (ap (λ one. passed_to one lock) at))
passes_by lock woken next apart (IsPassedOn.freed none wakes passes) =
    let at : first_for_lock lock ≡ None = ap (first_waiter Discipline.Priority) none in
    (wakes ∙ sym (ap (λ one. option_to_list (option_map (λ entry. entry.who) one)) at), passes ∙ sym (ap (λ one. passed_to one lock) at))

-- unlocking

unlocking_says : (lock : Lock) (effect : Effect Lock) → AreApart lock.waiters → effect ≡ unlocked lock → IsUnlocking lock effect
unlocking_says lock effect apart is =
    by_test (λ (one : Effect Lock). effect ≡ one → IsUnlocking lock effect) (nat_lt 1 lock.level) (unlocked_once lock) (given_up lock)
    (λ more is. IsUnlocking.not_last (ltb-true 1 lock.level more) is)
    (λ last is. IsUnlocking.at_last (next_owner lock) (passed_on lock) (grind arith) (passes_says lock apart (first_for_lock lock) refl) is) is

unlocking_by : (lock : Lock) (effect : Effect Lock) → AreApart lock.waiters → IsUnlocking lock effect → effect ≡ unlocked lock
unlocking_by lock effect apart (IsUnlocking.not_last more is) =
    let test : nat_lt 1 lock.level ≡ true = grind arith in rw test is
unlocking_by lock effect apart (IsUnlocking.at_last woken next last passed is) =
    let test : nat_lt 1 lock.level ≡ false = grind arith in
    let both = passes_by lock woken next apart passed in
    rw test (is ∙ (λ i. gives_level 0 (both.0 i) (both.1 i)))

-- a stop

stop_says : (process : ℕ) (lock next : Lock) (woken : List Who) → AreApart lock.waiters → woken ≡ freed_by_stop process lock → next ≡ lock_stopped process lock
    → IsStoppedOwner process lock woken next
stop_says process lock next woken apart wakes is =
    either_way (is_owner lock.owner process)
    (λ owns. (let frees : woken ≡ next_owner lock = wakes ∙ ap (λ one. cond one (next_owner lock) []) owns in
    let passes : next ≡ passed_on lock = is ∙ ap (λ one. cond one (passed_on lock) lock) owns in
    IsStoppedOwner.owner ((owner_tells lock.owner process).0 owns)
    (subst (λ one. IsPassedOn lock one next) (sym frees) (subst (IsPassedOn lock (next_owner lock)) (sym passes) (passes_says lock apart (first_for_lock lock) refl)))))
    (λ owns_not. IsStoppedOwner.another (λ owns. true≢false (sym ((owner_tells lock.owner process).1 owns) ∙ owns_not))
    (wakes ∙ ap (λ one. cond one (next_owner lock) []) owns_not) (is ∙ ap (λ one. cond one (passed_on lock) lock) owns_not))

stop_by : (process : ℕ) (lock next : Lock) (woken : List Who) → AreApart lock.waiters → IsStoppedOwner process lock woken next
    → (woken ≡ freed_by_stop process lock) × (next ≡ lock_stopped process lock)
stop_by process lock next woken apart (IsStoppedOwner.owner owns passed) =
    let test = (owner_tells lock.owner process).1 owns in
    let both = passes_by lock woken next apart passed in
    (both.0 ∙ sym (ap (λ one. cond one (next_owner lock) []) test), both.1 ∙ sym (ap (λ one. cond one (passed_on lock) lock) test))
stop_by process lock next woken apart (IsStoppedOwner.another owns_not wakes is) =
    let test = cannot_hold (is_owner lock.owner process) (λ owns. owns_not ((owner_tells lock.owner process).0 owns)) in
    (wakes ∙ sym (ap (λ one. cond one (next_owner lock) []) test), is ∙ sym (ap (λ one. cond one (passed_on lock) lock) test))

pub lock_is_the_sentence : LockIsTheSentence
lock_is_the_sentence = (
  λ caller lock effect. (locking_says caller lock effect lock.owner refl, locking_by caller lock effect),
  λ lock effect apart. (unlocking_says lock effect apart, unlocking_by lock effect apart),
  λ process lock next woken apart. (λ both. stop_says process lock next woken apart both.0 both.1, stop_by process lock next woken apart),
)
