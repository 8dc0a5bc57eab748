-- What a process can wait for that knows who waits: a waiting set, or the lock of its partition.
use Rattle.std.proofs.Common.{◌≡◌, ℕ, Bool, false, true, Option, Some, None, refl, sym, ◌∙◌, ap, ◌&&◌, true≢false}
use Rattle.std.proofs.lemmas.Bool.{and_parts}
use Rattle.apex_laws.proofs.Common.{CallRecord, Process, Request, Wait, WaitingSet, is_for_lock, is_in, is_of_lock, is_the_set, is_waiting, set_of, waits_at, waits_for_lock, waits_for_nothing, waits_for_normal}
use Rattle.apex_laws.proofs.Booleans.{impossible}
use Rattle.apex_laws.proofs.SetNames.{in_no_set}
use Rattle.apex_laws.proofs.Choices.{FoundReady}

pub data Awaited : Type 0 where
  TheSet : WaitingSet → Awaited
  TheLock : Awaited

-- whether a wait is for this
abbrev pub is_for : Awaited → Wait → Bool
is_for (Awaited.TheSet wanted) one = is_in wanted one
is_for Awaited.TheLock one = is_for_lock one

-- whether a process exists and waits for this
abbrev pub awaits : Awaited → Option Process → Bool
awaits wanted None = false
awaits wanted (Some process) = process.alive && is_for wanted process.wait

pub set_awaits : (wanted : WaitingSet) (found : Option Process) → awaits (Awaited.TheSet wanted) found ≡ waits_at wanted found
set_awaits wanted None = refl
set_awaits wanted (Some process) = refl

pub lock_awaits : (found : Option Process) → awaits Awaited.TheLock found ≡ waits_for_lock found
lock_awaits None = refl
lock_awaits (Some process) = refl

-- whether a call that waits begins to wait for this
abbrev pub begins : Awaited → Request → Option ℕ → Bool
begins (Awaited.TheSet wanted) asked chan = is_the_set wanted (set_of asked chan)
begins Awaited.TheLock asked chan = is_of_lock asked

abbrev pub goes_in : Awaited → CallRecord → Bool
goes_in wanted call = is_waiting call.claim.out && begins wanted call.request call.claim.chan

-- what waits for nothing waits for none of these
pub for_none : (wanted : Awaited) (one : Wait) → waits_for_nothing one ≡ true → is_for wanted one ≡ false
for_none (Awaited.TheSet wanted) one nothing = in_no_set wanted one nothing
for_none Awaited.TheLock Wait.Nothing nothing = refl
for_none Awaited.TheLock _ nothing = impossible nothing

-- nor does what waits for NORMAL
pub not_for_normal : (wanted : Awaited) (one : Wait) → is_for wanted one ≡ true → waits_for_normal one ≡ false
not_for_normal (Awaited.TheSet wanted) (Wait.At set due) waits = refl
not_for_normal (Awaited.TheSet wanted) _ waits = impossible waits
not_for_normal Awaited.TheLock Wait.ForLock waits = refl
not_for_normal Awaited.TheLock _ waits = impossible waits

-- nor does a process that is ready
pub ready_awaits_not : (core : ℕ) (found : Option Process) (wanted : Awaited) → FoundReady core found → awaits wanted found ≡ true → ⊥
ready_awaits_not core found wanted ready waits =
    let here : awaits wanted (Some ready.process) ≡ true = sym (ap (awaits wanted) ready.is_member) ∙ waits in
    let wait : is_for wanted ready.process.wait ≡ true = (and_parts ready.process.alive _ here).1 in
    true≢false (sym wait ∙ for_none wanted ready.process.wait (ap waits_for_nothing ready.ready.waits))
