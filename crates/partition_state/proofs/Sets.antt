-- What a call makes of the waiting set that its object has, and of the one object that it names.
use Rattle.std.proofs.Common.{◌≡◌, ◌≢◌, ℕ, ℤ, pos, negsuc, ◌<◌, List, [], ◌∷◌, Option, Some, None, Bool, true, false, nat_eq, ◌&&◌, IfErr, Result, Ok, Err, refl, sym, ap, ◌∙◌, arith, cond}
use Rattle.std.specs.Option.{IfSome}
use Rattle.std.specs.Result.{IsErrAnd}
use Rattle.std.proofs.lemmas.Bool.Decides.{nat_tests}
use Rattle.apex_types.specs.declared.record.Body.TheVariants.{Call}
use Rattle.apex_types.specs.declared.record.Call.{Call as CallRecord}
use Rattle.apex_types.specs.declared.record.Claim.{Claim}
use Rattle.apex_types.specs.declared.record.Who.{Who}
use Rattle.apex_machine.specs.declared.state.Entry.{Entry}
use Rattle.apex_machine.specs.declared.state.WaitingSet.{WaitingSet}
use Rattle.apex_machine.specs.Demands.{has_entry_in}
use Rattle.apex_machine.specs.Arguments.{natural_of}
use Rattle.apex_machine.specs.Services.{answer_by}
use Rattle.apex_machine.specs.State.{Partition, change_at, given_object, item_at}
use Rattle.apex_machine.specs.Waiting.{enters, is_restart, is_the_set, is_waiting, message_of, set_after, set_of, stop_of}
use Rattle.apex_laws.specs.Laws.{AllEntries, IsInOrder, are_distinct, entries_at}
use Rattle.partition_objects.proofs.Tables.{change-absent}
use Rattle.apex_machine.specs.Answer.{Answer, NamesExactly}
use Rattle.wait_set.proofs.Calls as calls
use Rattle.wait_set.proofs.Calls.{no_place}
pub use Rattle.wait_set.proofs.Calls.{set_left}
use Rattle.wait_set.specs.Actors.{entry_with, joined_by, left_by}
use Rattle.wait_set.specs.Laws.{AreBeforePlace}
use Rattle.wait_set.specs.Sets.{IsNew}
use Rattle.partition_state.specs.Calls.{IsAtWork}

-- who enters

-- entries below a place are before it
pub are_before : (place : ℕ) (entries : List Entry) → AllEntries (λ entry. entry.place < place) entries → AreBeforePlace place entries
are_before place [] below = tt
are_before place (entry ∷ entries) below = (below.0, are_before place entries below.1)

-- who makes a call is new in each waiting set of the partition
pub is_new : (place : ℕ) (partition : Partition) (who : Who) (priority : ℕ) (message : List ℕ) → IsAtWork place partition who
    → (wanted : WaitingSet) (entries : List Entry) → entries_at partition wanted ≡ entries
    → IsNew (entry_with (record { who = who; priority = priority; place = place }) message) entries
is_new place partition who priority message at_work wanted entries are =
    let apart : has_entry_in who entries ≡ false = rw are at (at_work.nowhere wanted) in
    let below : AllEntries (λ entry. entry.place < place) entries = rw are at (at_work.sound.order wanted).below in
    (apart, no_place place entries (are_before place entries below))

-- the entries of a set of a partition at work are in order
pub in_order : (place : ℕ) (partition : Partition) (who : Who) → IsAtWork place partition who → (wanted : WaitingSet) (entries : List Entry)
    → entries_at partition wanted ≡ entries → IsInOrder place entries
in_order place partition who at_work wanted entries are = rw are at (at_work.sound.order wanted)

-- what a call leaves

and_false : (b : Bool) → (b && false) ≡ false
and_false true = refl
and_false false = refl

-- a set in which its caller may wait: those leave that it names, and a caller that waits enters it
pub set_joined : (place : ℕ) (call : CallRecord) (wanted : WaitingSet) (entries : List Entry) → stop_of call.request ≡ None → is_restart call ≡ false → IsInOrder place entries
    → enters call wanted ≡ is_waiting call.claim.out
    → set_after place (Call call) wanted entries
    ≡ joined_by (record { who = call.who; priority = call.claim.prio; place = place }) call.claim (message_of call.request) entries
set_joined place call wanted entries none goes_on order can = calls.set_joined place call wanted entries none goes_on (are_before place entries order.below) can

-- if a claim names no process, all stay
pub all_stay : (claim : Claim) → NamesExactly [] claim.woken → (entries : List Entry) → left_by claim entries ≡ entries
all_stay claim nobody [] = refl
all_stay claim nobody (entry ∷ entries) = rw (nobody entry.who, all_stay claim nobody entries) refl

-- a set in which its caller may wait, and brings no message
pub set_joined_plainly : (place : ℕ) (call : CallRecord) (wanted : WaitingSet) (entries : List Entry) → stop_of call.request ≡ None → is_restart call ≡ false
    → message_of call.request ≡ [] → is_the_set wanted (set_of call.request call.claim.chan) ≡ true → IsInOrder place entries
    → set_after place (Call call) wanted entries ≡ joined_by (record { who = call.who; priority = call.claim.prio; place = place }) call.claim [] entries
set_joined_plainly place call wanted entries none goes_on plain here order =
    set_joined place call wanted entries none goes_on order (rw here (and_true (is_waiting call.claim.out)))
    ∙ ap (λ message. joined_by (record { who = call.who; priority = call.claim.prio; place = place }) call.claim message entries) plain
  where
    and_true : (b : Bool) → (b && true) ≡ b
    and_true true = refl
    and_true false = refl

-- a set in which its caller does not wait, by its request
pub set_left_plainly : (place : ℕ) (call : CallRecord) (wanted : WaitingSet) (entries : List Entry) → stop_of call.request ≡ None → is_restart call ≡ false
    → set_of call.request call.claim.chan ≡ None → set_after place (Call call) wanted entries ≡ left_by call.claim entries
set_left_plainly place call wanted entries none goes_on nowhere = set_left place call wanted entries none goes_on (rw nowhere (and_false (is_waiting call.claim.out)))

-- the one object

-- two changes that do the same to the object of a number do the same to the objects
pub change_found : {Object : Type 0} (number : ℕ) (change other : Object → Object) (found : Object) (objects : List (ℕ × Object))
    → are_distinct objects ≡ true → item_at objects number ≡ Some found → change found ≡ other found
    → change_at number change objects ≡ change_at number other objects
change_found number change other found [] distinct is alike = refl
change_found {Object} number change other found (entry ∷ entries) distinct is alike =
    by (nat_eq number entry.0) refl (λ more there. change_found number change other found entries more there alike)
  where
    swap : nat_eq number entry.0 ≡ nat_eq entry.0 number
    swap = grind (arith, nat_tests)

    by : (b : Bool) → nat_eq number entry.0 ≡ b
        → (are_distinct entries ≡ true → item_at entries number ≡ Some found → change_at number change entries ≡ change_at number other entries)
        → change_at number change (entry ∷ entries) ≡ change_at number other (entry ∷ entries)
    by true e rest =
        let here : nat_eq entry.0 number ≡ true = rw (← swap) e in
        let same : entry.0 ≡ number = grind (arith, nat_tests) in
        let first = rw e at is in
        let item : entry.1 ≡ found = cc in
        let alone : item_at entries number ≡ None = rw same at (absent (item_at entries entry.0) refl distinct) in
        rw (here, item, alike, change-absent number change entries alone, change-absent number other entries alone) refl
      where
        absent : (o : Option Object) → item_at entries entry.0 ≡ o → are_distinct (entry ∷ entries) ≡ true → item_at entries entry.0 ≡ None
        absent None e distinct = e
        absent (Some item) e distinct = let not_so = rw e at distinct in cc
    by false e rest =
        let apart : nat_eq entry.0 number ≡ false = rw (← swap) e in
        let there : item_at entries number ≡ Some found = rw e at is in
        rw (apart, rest (others (item_at entries entry.0) refl distinct) there) refl
      where
        others : (o : Option Object) → item_at entries entry.0 ≡ o → are_distinct (entry ∷ entries) ≡ true → are_distinct entries ≡ true
        others None e distinct = rw e at distinct
        others (Some item) e distinct = let not_so = rw e at distinct in cc

-- so it is with the object of the number that a caller gives
pub change_given : {Object : Type 0} (given : ℤ) (change other : Object → Object) (objects : List (ℕ × Object)) → are_distinct objects ≡ true
    → given_object objects given ≢ None
    → ((found : Object) → given_object objects given ≡ Some found → item_at objects (natural_of given) ≡ Some found → change found ≡ other found)
    → change_at (natural_of given) change objects ≡ change_at (natural_of given) other objects
change_given (negsuc n) change other objects distinct there alike = absurd (there refl)
change_given {Object} (pos n) change other objects distinct there alike = by (item_at objects n) refl
  where
    by : (o : Option Object) → item_at objects n ≡ o → change_at n change objects ≡ change_at n other objects
    by None e = absurd (there e)
    by (Some found) e = change_found n change other found objects distinct e (alike found e e)

-- what its caller gets of the object that is found
pub answered_by : {Object : Type 0} (Fact : Answer → Type 0) (gives : Object → Answer) (given : Option Object) → given ≢ None
    → IfSome given (λ found. Fact (gives found)) → Fact (answer_by given gives)
answered_by Fact gives None there fact = absurd (there refl)
answered_by Fact gives (Some found) there fact = fact

-- what its caller gets of each object alike
pub answered_alike : {Object : Type 0} (Fact : Answer → Type 0) (answer : Answer) (given : Option Object) → given ≢ None
    → IfSome given (λ found. Fact answer) → Fact answer
answered_alike Fact answer None there fact = absurd (there refl)
answered_alike Fact answer (Some found) there fact = fact

-- numbers, choices and errors

-- a number is itself
pub same_number : (n : ℕ) → nat_eq n n ≡ true
same_number n = grind (arith, nat_tests)

-- a choice between what is the same
pub either_way : {Value : Type 0} (b : Bool) (value other : Value) → value ≡ other → cond b value other ≡ value
either_way true value other same = refl
either_way false value other same = sym same

-- what holds of the error that a result has
pub of_error : {Value Fault : Type 0} (Same Fact : Fault → Type 0) → ((fault : Fault) → Same fault → Fact fault)
    → (result : Result Value Fault) → IsErrAnd result Same → IfErr result Fact
of_error Same Fact then (Ok value) is = tt
of_error Same Fact then (Err fault) is = then fault is
