-- One object of a table, found and changed.
use Rattle.std.proofs.Common.{◌≡◌, ℕ, ◌<◌, ◌≤◌, ◌^◌, List, Bool, true, false, nat_eq, [], ◌∷◌, ◌++◌, ◌||◌, Option, Some, None, refl, sym, ap, ◌∙◌, arith, cond}
use Rattle.std.proofs.lemmas.Bool.Decides.{nat_tests}
use Rattle.std.specs.List.{AllByRecursion, IsDistinct, find, list_any}
use Rattle.std.specs.Map.{keys_of, lookup, set_value, values_of}
use Rattle.std.specs.Option.{option_map}
use Rattle.std.specs.Str.{bytes_eq}
use Rattle.apex_machine.specs.Conditions.{is_taken}
use Rattle.apex_machine.specs.Names.{number_named}
use Rattle.apex_machine.specs.State.{change_at, item_at}
use Rattle.partition_objects.specs.Numbers.{NumbersFit}

-- what a look-up finds is the object at the number
pub lookup-item_at : {Object : Type 0} (number : ℕ) (entries : List (ℕ × Object)) → lookup (nat_eq number) entries ≡ item_at entries number
lookup-item_at number [] = refl
lookup-item_at number (entry ∷ entries) = ap (λ rest. cond (nat_eq number entry.0) (Some entry.1) rest) (lookup-item_at number entries)

nat_eq-swap : (a b : ℕ) → nat_eq a b ≡ nat_eq b a
nat_eq-swap a b = grind (arith, nat_tests)

-- a change at one number leaves a table that has not the number
pub change-absent : {Object : Type 0} (number : ℕ) (change : Object → Object) (entries : List (ℕ × Object))
    → item_at entries number ≡ None → change_at number change entries ≡ entries
change-absent number change [] none = refl
change-absent number change (entry ∷ entries) none = by (nat_eq number entry.0) refl (change-absent number change entries)
  where
    by : (b : Bool) → nat_eq number entry.0 ≡ b → (item_at entries number ≡ None → change_at number change entries ≡ entries)
        → change_at number change (entry ∷ entries) ≡ entry ∷ entries
    by true e others = let found = rw e at none in cc
    by false e others =
        let apart : nat_eq entry.0 number ≡ false = rw (nat_eq-swap entry.0 number) e in
        let rest : item_at entries number ≡ None = rw e at none in
        rw (apart, others rest)

-- a number that no key of the rest equals is none of the rest's
absent_from : {Object : Type 0} (number : ℕ) (entries : List (ℕ × Object)) → AllByRecursion (λ key. nat_eq number key ≡ false) (keys_of entries)
    → item_at entries number ≡ None
absent_from number [] apart = refl
absent_from number (entry ∷ entries) apart = rw (apart.0) (absent_from number entries apart.1)

-- what is written at a number that has an object is a change of this number alone
pub change-written : {Object : Type 0} (number : ℕ) (change : Object → Object) (old written : Object) (entries : List (ℕ × Object))
    → IsDistinct nat_eq (keys_of entries) → item_at entries number ≡ Some old → written ≡ change old
    → set_value (nat_eq number) entries written ≡ change_at number change entries
unfolding IsDistinct
change-written number change old written [] distinct found is = refl
change-written number change old written (entry ∷ entries) distinct found is =
    by (nat_eq number entry.0) refl (λ rest. change-written number change old written entries distinct.1 rest is)
  where
    by : (b : Bool) → nat_eq number entry.0 ≡ b
        → (item_at entries number ≡ Some old → set_value (nat_eq number) entries written ≡ change_at number change entries)
        → set_value (nat_eq number) (entry ∷ entries) written ≡ change_at number change (entry ∷ entries)
    by true e others =
        let here : nat_eq entry.0 number ≡ true = rw (nat_eq-swap entry.0 number) e in
        let same : number ≡ entry.0 = grind (arith, nat_tests) in
        let found_here = rw e at found in
        let old_is : old ≡ entry.1 = cc in
        let rest : change_at number change entries ≡ entries = change-absent number change entries (rw same (absent_from entry.0 entries distinct.0)) in
        rw (e, here, rest, is, old_is)
    by false e others =
        let apart : nat_eq entry.0 number ≡ false = rw (nat_eq-swap entry.0 number) e in
        let found_rest : item_at entries number ≡ Some old = rw e at found in
        rw (e, apart, others found_rest)

-- what is written back as it was leaves the table
pub kept-written : {Object : Type 0} (number : ℕ) (old : Object) (entries : List (ℕ × Object))
    → item_at entries number ≡ Some old → set_value (nat_eq number) entries old ≡ entries
kept-written number old [] found = refl
kept-written number old (entry ∷ entries) found = by (nat_eq number entry.0) refl (kept-written number old entries)
  where
    by : (b : Bool) → nat_eq number entry.0 ≡ b → (item_at entries number ≡ Some old → set_value (nat_eq number) entries old ≡ entries)
        → set_value (nat_eq number) (entry ∷ entries) old ≡ entry ∷ entries
    by true e others =
        let found_here = rw e at found in
        let old_is : old ≡ entry.1 = cc in
        rw (e, old_is) refl
    by false e others =
        let found_rest : item_at entries number ≡ Some old = rw e at found in
        rw (e, others found_rest)

-- a search over the names
pub is_taken-any : {Object : Type 0} (name_of : Object → List ℕ) (name : List ℕ) (entries : List (ℕ × Object))
    → is_taken name_of name entries ≡ list_any (λ object. bytes_eq name (name_of object)) (values_of entries)
is_taken-any name_of name [] = refl
is_taken-any name_of name (entry ∷ entries) = ap (λ rest. bytes_eq name (name_of entry.1) || rest) (is_taken-any name_of name entries)

-- a search for a name
pub number_named-find : {Object : Type 0} (name_of : Object → List ℕ) (name : List ℕ) (entries : List (ℕ × Object))
    → number_named name_of name entries ≡ option_map (λ entry. entry.0) (find (λ entry. bytes_eq name (name_of entry.1)) entries)
number_named-find name_of name [] = refl
number_named-find name_of name (entry ∷ entries) = by (bytes_eq name (name_of entry.1)) (number_named-find name_of name entries)
  where
    by : (b : Bool)
        → number_named name_of name entries ≡ option_map (λ entry. entry.0) (find (λ entry. bytes_eq name (name_of entry.1)) entries)
        → cond b (Some entry.0) (number_named name_of name entries)
        ≡ option_map (λ entry. entry.0) (cond b (Some entry) (find (λ entry. bytes_eq name (name_of entry.1)) entries))
    by true rest = refl
    by false rest = rest

-- so the number of what it finds is that of the name
pub found-named : {Object Found : Type 0} (name_of : Object → List ℕ) (name : List ℕ) (entries : List (ℕ × Object)) (see : Found → ℕ × Object)
    (found : Option Found) → option_map see found ≡ find (λ entry. bytes_eq name (name_of entry.1)) entries
    → option_map (λ item. (see item).0) found ≡ number_named name_of name entries
found-named {Found = Found} name_of name entries see found is =
    of_both found ∙ ap (option_map (λ entry. entry.0)) is ∙ sym (number_named-find name_of name entries)
  where
    of_both : (o : Option Found) → option_map (λ item. (see item).0) o ≡ option_map (λ entry. entry.0) (option_map see o)
    of_both None = refl
    of_both (Some item) = refl

-- numbers that fit stay so

pub NumbersFit-push : {Object : Type 0} (entries : List (ℕ × Object)) (number : ℕ) (object : Object) → NumbersFit entries → number < 2 ^ 32
    → NumbersFit (entries ++ (number, object) ∷ [])
NumbersFit-push [] number object fit bound = (bound, tt)
NumbersFit-push (entry ∷ entries) number object fit bound = (fit.0, NumbersFit-push entries number object fit.1 bound)

pub NumbersFit-written : {Object : Type 0} (test : ℕ → Bool) (written : Object) (entries : List (ℕ × Object)) → NumbersFit entries
    → NumbersFit (set_value test entries written)
NumbersFit-written test written [] fit = tt
NumbersFit-written test written (entry ∷ entries) fit = by (test entry.0) (NumbersFit-written test written entries fit.1)
  where
    by : (b : Bool) → NumbersFit (set_value test entries written) → NumbersFit (cond b ((entry.0, written) ∷ entries) (entry ∷ set_value test entries written))
    by true rest = fit
    by false rest = (fit.0, rest)

-- a number past 32 bits has no object
pub absent-above : {Object : Type 0} (entries : List (ℕ × Object)) (number : ℕ) → NumbersFit entries → 2 ^ 32 ≤ number → item_at entries number ≡ None
absent-above [] number fit above = refl
absent-above (entry ∷ entries) number fit above =
    let apart : nat_eq number entry.0 ≡ false = grind (arith, nat_tests) in
    rw apart (absent-above entries number fit.1 above)
