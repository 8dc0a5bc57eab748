-- The numbers of objects: new ones, and those that callers give.
use Rattle.std.proofs.Common.{◌≡◌, ◌≢◌, ℕ, ◌<◌, ◌≤◌, ◌^◌, List, [], ◌∷◌, Bool, true, false, is_none, nat_eq, nat_le, nat_lt, ◌∙◌, sym, Option, Some, None, ℤ, pos, negsuc, refl, arith}
use Rattle.std.proofs.lemmas.Bool.{and_parts}
use Rattle.std.proofs.lemmas.Bool.Decides.{nat_tests}
use Rattle.std.specs.Map.{lookup}
use Rattle.apex_types.specs.declared.limits.TheConstants.{GREATEST_NUMBER}
use Rattle.apex_machine.specs.Answer.{is_new}
use Rattle.apex_machine.specs.Arguments.{natural_of}
use Rattle.apex_machine.specs.State.{given_object, is_free, item_at}
use Rattle.partition_objects.specs.Numbers.{NumbersFit, number_of}
use Rattle.partition_objects.proofs.Tables.{absent-above, lookup-item_at}

none_of : {Object : Type 0} (found : Option Object) → is_none found ≡ true → found ≡ None
none_of None h = refl
none_of (Some object) h = cc

-- no object has a new number
pub new-absent : {Object : Type 0} (entries : List (ℕ × Object)) (number : ℕ) → is_new (is_free entries) (Some (pos number)) ≡ true → item_at entries number ≡ None
new-absent entries number new = none_of _ (and_parts _ _ (and_parts _ _ new).1).1

-- a new number fits
pub new-fits : {Object : Type 0} (entries : List (ℕ × Object)) (number : ℕ) → is_new (is_free entries) (Some (pos number)) ≡ true → number < 2 ^ 32
new-fits entries number new =
    let least : nat_le number GREATEST_NUMBER ≡ true = (and_parts (nat_le number GREATEST_NUMBER) _ (and_parts (nat_lt 0 number) _ new).1).0 in
    grind (arith, nat_tests)

-- a number that can be no object's has no object
pub given-none : {Object : Type 0} (entries : List (ℕ × Object)) (given : ℤ) → NumbersFit entries → number_of given ≡ None → given_object entries given ≡ None
given-none entries (pos n) fit none = absent-above entries n fit (above n none)
  where
    above : (m : ℕ) → number_of (pos m) ≡ None → 2 ^ 32 ≤ m
    above m h = grind (arith, nat_tests)
given-none entries (negsuc n) fit none = refl

-- another number has the object of the table
pub given-some : {Object : Type 0} (entries : List (ℕ × Object)) (given : ℤ) (number : ℕ) → number_of given ≡ Some number → given_object entries given ≡ item_at entries number
given-some entries (pos n) number found =
    let same : n ≡ number = grind (arith, nat_tests) in
    rw same refl
given-some entries (negsuc n) number found = cc

-- the number of an object fits
pub number_fits : {Object : Type 0} (number : ℕ) (objects : List (ℕ × Object)) → NumbersFit objects → item_at objects number ≢ None → number < 4294967296
number_fits number [] fit found = absurd (found refl)
number_fits number (entry ∷ entries) fit found = by (nat_eq number entry.0) refl (number_fits number entries fit.1)
  where
    by : (b : Bool) → nat_eq number entry.0 ≡ b → (item_at entries number ≢ None → number < 4294967296) → number < 4294967296
    by true e rest = let here : entry.0 < 4294967296 = fit.0 in grind (arith, nat_tests)
    by false e rest = rest (rw e at found)

-- so does the number that a caller gives for an object
pub given_fits : {Object : Type 0} (objects : List (ℕ × Object)) (given : ℤ) → NumbersFit objects → given_object objects given ≢ None → natural_of given < 4294967296
given_fits objects (pos n) fit found = number_fits n objects fit found
given_fits objects (negsuc n) fit found = absurd (found refl)

-- and it is not below 0
pub given_natural : {Object : Type 0} (objects : List (ℕ × Object)) (given : ℤ) → given_object objects given ≢ None → given ≡ pos (natural_of given)
given_natural objects (pos n) found = refl
given_natural objects (negsuc n) found = absurd (found refl)

-- what a look-up finds is what the caller's number gives
pub given-found : {Object : Type 0} (entries : List (ℕ × Object)) (given : ℤ) (number : ℕ) (found : Option Object) → item_at entries number ≡ given_object entries given
    → found ≡ lookup (nat_eq number) entries → given_object entries given ≡ found
given-found entries given number found same looked = sym same ∙ sym (lookup-item_at number entries) ∙ sym looked
