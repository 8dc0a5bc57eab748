-- What a call makes of a waiting set: who leaves it, and who enters.
use Rattle.std.proofs.Common.{◌≡◌, ℕ, List, [], ◌∷◌, ◌++◌, None, Bool, true, false, nat_eq, ◌&&◌, ◌||◌, refl, sym, arith, cond}
use Rattle.std.proofs.lemmas.Bool.Decides.{nat_tests}
use Rattle.apex_types.specs.declared.record.Body.TheVariants.{Call}
use Rattle.apex_types.specs.declared.record.Call.{Call as CallRecord}
use Rattle.apex_types.specs.declared.record.Who.{Who}
use Rattle.apex_machine.specs.declared.state.Entry.{Entry}
use Rattle.apex_machine.specs.declared.state.WaitingSet.{WaitingSet}
use Rattle.apex_machine.specs.State.{is_named}
use Rattle.apex_machine.specs.Waiting.{ends_wait, enters, entry_of, is_no_error, is_restart, is_target, is_waiting, message_of, set_after, stop_of, without}
use Rattle.wait_set.specs.Actors.{joined_by, left_by}
use Rattle.wait_set.specs.Laws.{AreBeforePlace}
use Rattle.wait_set.specs.Sets.{entered, has_place}
use Rattle.wait_set.proofs.Last.{enters_last}

-- who leaves

or_false : (b : Bool) → (b || false) ≡ b
or_false true = refl
or_false false = refl

and_false : (b : Bool) → (b && false) ≡ false
and_false true = refl
and_false false = refl

-- two tests that agree take out the same entries
pub same_without : (leaves goes : Who → Bool) (entries : List Entry) → ((who : Who) → leaves who ≡ goes who)
    → without leaves entries ≡ without goes entries
same_without leaves goes [] alike = refl
same_without leaves goes (entry ∷ entries) alike =
    let rest : without leaves entries ≡ without goes entries = same_without leaves goes entries alike in
    rw (alike entry.who, rest) refl

-- a call that stops no process and restarts no partition ends the waits of those that it names
names_alone : (call : CallRecord) → stop_of call.request ≡ None → is_restart call ≡ false → (who : Who)
    → ends_wait call who ≡ is_named who call.claim.woken
names_alone call none stays who =
    let nobody : is_target (stop_of call.request) who.proc ≡ false = rw none refl in
    rw (stays, nobody, and_false (nat_eq who.part call.who.part), and_false (is_no_error call.claim.out), or_false (is_named who call.claim.woken))
    refl

-- processes that it does not name stay
pub only_named_leave : (call : CallRecord) → stop_of call.request ≡ None → is_restart call ≡ false → (entries : List Entry)
    → without (ends_wait call) entries ≡ left_by call.claim entries
only_named_leave call none stays entries = same_without (ends_wait call) (λ who. is_named who call.claim.woken) entries (names_alone call none stays)

-- who enters

-- below a place no entry has it
pub no_place : (place : ℕ) (entries : List Entry) → AreBeforePlace place entries → has_place place entries ≡ false
no_place place [] before = refl
no_place place (entry ∷ entries) before =
    let apart : nat_eq place entry.place ≡ false = grind (arith, nat_tests, before.0) in
    rw (apart, no_place place entries before.1) refl

-- who leaves keeps the others before a place
before-without : (leaves : Who → Bool) (place : ℕ) (entries : List Entry) → AreBeforePlace place entries → AreBeforePlace place (without leaves entries)
before-without leaves place [] before = tt
before-without leaves place (entry ∷ entries) before = by (before-without leaves place entries before.1) (leaves entry.who)
  where
    by : AreBeforePlace place (without leaves entries) → (b : Bool) → AreBeforePlace place (cond b (without leaves entries) (entry ∷ without leaves entries))
    by rest true = rest
    by rest false = (before.0, rest)

-- a set in which its caller may wait: those leave that it names, and a caller that waits enters it
pub set_joined : (place : ℕ) (call : CallRecord) (wanted : WaitingSet) (entries : List Entry) → stop_of call.request ≡ None → is_restart call ≡ false
    → AreBeforePlace place entries → enters call wanted ≡ is_waiting call.claim.out
    → set_after place (Call call) wanted entries
    ≡ joined_by (record { who = call.who; priority = call.claim.prio; place = place }) call.claim (message_of call.request) entries
set_joined place call wanted entries none stays before can = rw (can, only_named_leave call none stays entries) (by (is_waiting call.claim.out))
  where
    last : entered (entry_of place call) (left_by call.claim entries) ≡ left_by call.claim entries ++ entry_of place call ∷ []
    last = enters_last (entry_of place call) (left_by call.claim entries)
        (before-without (λ who. is_named who call.claim.woken) place entries before)

    by : (b : Bool) → cond b (left_by call.claim entries ++ entry_of place call ∷ []) (left_by call.claim entries)
        ≡ cond b (entered (entry_of place call) (left_by call.claim entries)) (left_by call.claim entries)
    by true = sym last
    by false = refl

-- a set in which its caller does not wait: those leave that it names
pub set_left : (place : ℕ) (call : CallRecord) (wanted : WaitingSet) (entries : List Entry) → stop_of call.request ≡ None → is_restart call ≡ false
    → enters call wanted ≡ false → set_after place (Call call) wanted entries ≡ left_by call.claim entries
set_left place call wanted entries none stays outside = rw (outside, only_named_leave call none stays entries) refl
