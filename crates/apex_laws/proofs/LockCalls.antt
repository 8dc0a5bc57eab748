-- The lock of the caller's partition after a call is what the sentences say.
use Rattle.std.proofs.Common.{◌≡◌, List, ℕ, IsTrue, cond, refl, sym, ap, ◌∙◌, inl, inr, true≢false}
use Rattle.apex_laws.specs.RecordSentences.{IsLockAfterCall, IsLockChange, IsLockSetAfterCall}
use Rattle.apex_laws.proofs.Common.{AreApart, CallerOperation, CallRecord, Entry, Lock, LockOperation, Call, ProcessOperation, Request, ends_wait, enters_lock, freed_by_stop, is_done, lock_by, lock_called, lock_stopped}
use Rattle.apex_laws.proofs.Common.{lock_waiters_after, locked, natural_of, unlocked, without}
use Rattle.apex_laws.proofs.Booleans.{either_way}
use Rattle.apex_laws.proofs.Keeps.{called_waiters}
use Rattle.apex_laws.proofs.LockRules.{lock_is_the_sentence}
use Rattle.apex_laws.proofs.Records.{keeps_only}

-- what a call makes of the lock, its waiting set aside
lock_changes : (caller : ℕ) (asked : Request) (lock : Lock) → AreApart lock.waiters → IsLockChange caller asked lock (lock_by caller asked lock)
lock_changes caller (Request.Preemption LockOperation.Lock) lock apart = (locked caller lock, (lock_is_the_sentence.0 caller lock (locked caller lock)).0 refl, refl)
lock_changes caller (Request.Preemption LockOperation.Unlock) lock apart = (unlocked lock, (lock_is_the_sentence.1 lock (unlocked lock) apart).0 refl, refl)
lock_changes caller (Request.Process process ProcessOperation.Stop) lock apart =
    (freed_by_stop (natural_of process) lock, (lock_is_the_sentence.2 (natural_of process) lock (lock_stopped (natural_of process) lock) (freed_by_stop (natural_of process) lock) apart).0 (refl, refl))
lock_changes caller (Request.Caller CallerOperation.StopSelf) lock apart =
    (freed_by_stop caller lock, (lock_is_the_sentence.2 caller lock (lock_stopped caller lock) (freed_by_stop caller lock) apart).0 (refl, refl))
lock_changes caller _ lock apart = refl

-- its waiting set
lock_set_says : (place : ℕ) (call : CallRecord) (old new : List Entry) → new ≡ lock_waiters_after place (Call call) old → IsLockSetAfterCall place call old new
lock_set_says place call old new is = record {
  rest = without (ends_wait call) old;
  kept = keeps_only (λ who. IsTrue (ends_wait call who)) (ends_wait call) (λ who passed. passed) (λ who stays passed. true≢false (sym passed ∙ stays)) old;
  entered = either_way (enters_lock call) (λ here. inl (here, rw here at is)) (λ elsewhere. inr (elsewhere, rw elsewhere at is));
}

-- the whole
pub lock_says : (place : ℕ) (call : CallRecord) (old new : Lock) → AreApart old.waiters → new ≡ lock_called place call old → IsLockAfterCall place call old new
lock_says place call old new apart is =
    let changed : Lock = cond (is_done call.claim.out) (lock_by call.who.proc call.request old) old in record {
      changed = changed;
      change = either_way (is_done call.claim.out) (λ done. inl (done, rw done (lock_changes call.who.proc call.request old apart))) (λ not_so. inr (not_so, rw not_so refl));
      rest = is ∙ ap (λ (waiters : List Entry). let one : Lock = record changed { waiters = waiters } in one) (sym (ap (λ (one : Lock). one.waiters) is));
      set = lock_set_says place call old.waiters new.waiters (ap (λ (one : Lock). one.waiters) is ∙ called_waiters place call old);
    }
