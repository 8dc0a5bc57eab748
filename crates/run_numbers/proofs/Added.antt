-- What is added one after another.
use Rattle.std.proofs.Common.{◌≡◌, ◌<◌, ◌≤◌, ◌+◌, ◌-◌, ◌∙◌, ℕ, zero, suc, List, [], ◌∷◌, ◌++◌, Result, Ok, Err, length, get_or, take, sym, ap, append_assoc, arith}
use Rattle.std.proofs.lemmas.List.{append-nil, flat_map_more, take_all, take_more}
use Rattle.std.proofs.lemmas.Result.{on_ok_weaker}
use Rattle.std.specs.List.{flat_map, slice_get}
use Rattle.std.specs.Option.{option_map_or}
use Rattle.std.specs.Result.{OnOk}
use Rattle.run_numbers.specs.declared.observation.Observation.{Observation}

-- nothing is added
pub none_added : (old : List Observation) → old ≡ old ++ []
none_added old = sym (append-nil old)

-- first some observations are added, and then others
pub one_then : (old now new first later : List Observation) → now ≡ old ++ first → new ≡ now ++ later → new ≡ old ++ (first ++ later)
one_then old now new first later one other = other ∙ ap (λ list. list ++ later) one ∙ append_assoc old first later

-- the same, if the others are added
pub then_more : {T E : Type 0} (old now new first later : List Observation) (result : Result T E) → now ≡ old ++ first → OnOk result (new ≡ now ++ later)
    → OnOk result (new ≡ old ++ (first ++ later))
then_more {T} {E} old now new first later result one other = on_ok_weaker result (λ is. one_then old now new first later one is) other

-- what one more item gives is added
pub one_more : {Item : Type 0} (given : Item → List Observation) (items : List Item) (index : ℕ) (item : Item) (old now new : List Observation) → index < length items
    → item ≡ get_or items index item → now ≡ old ++ flat_map given (take index items) → new ≡ now ++ given item
    → new ≡ old ++ flat_map given (take (index + 1) items)
one_more given items index item old now new less is so more =
    more ∙ ap (λ list. list ++ given item) so ∙ flat_map_more given old (take index items) item
    ∙ ap (λ list. old ++ flat_map given list) (ap (λ one. take index items ++ one ∷ []) is ∙ sym (take_more items index item less))

-- what all items give is added
pub all_of : {Item : Type 0} (given : Item → List Observation) (items : List Item) (index : ℕ) (old new : List Observation) → length items ≤ index
    → new ≡ old ++ flat_map given (take index items) → new ≡ old ++ flat_map given items
all_of given items index old new all so = so ∙ ap (λ list. old ++ flat_map given list) (take_all index items all)

-- what the item of an index gives is added, if there is one

more_at : {Item : Type 0} (given : Item → List Observation) (items : List Item) (index : ℕ)
    → flat_map given (take index items) ++ option_map_or given (slice_get items index) [] ≡ flat_map given (take (index + 1) items)
more_at given [] index = let none : (n : ℕ) → flat_map given (take n []) ≡ [] = (λ n. ap (flat_map given) (take_all n [] (omega arith))) in
    append-nil (flat_map given (take index [])) ∙ none index ∙ sym (none (index + 1))
more_at given (first ∷ others) zero = sym (append-nil (given first))
more_at given (first ∷ others) (suc index) =
    let next : suc index + 1 ≡ suc (index + 1) = omega arith in
    append_assoc (given first) (flat_map given (take index others)) (option_map_or given (slice_get others index) []) ∙ ap (λ list. given first ++ list) (more_at given others index)
    ∙ ap (λ n. flat_map given (take n (first ∷ others))) (sym next)

pub one_at : {Item : Type 0} (given : Item → List Observation) (items : List Item) (index : ℕ) (old now new : List Observation)
    → now ≡ old ++ flat_map given (take index items) → new ≡ now ++ option_map_or given (slice_get items index) [] → new ≡ old ++ flat_map given (take (index + 1) items)
one_at given items index old now new so more =
    one_then old now new (flat_map given (take index items)) (option_map_or given (slice_get items index) []) so more ∙ ap (λ list. old ++ list) (more_at given items index)

-- the last item, at an index one less than their number
pub all_after : {Item T E : Type 0} (given : Item → List Observation) (items : List Item) (index last : ℕ) (old now : List Observation) (result : Result T E) (new : List Observation)
    → last ≡ length items - 1 → last ≤ index → index ≤ last → now ≡ old ++ flat_map given (take index items)
    → OnOk result (new ≡ now ++ option_map_or given (slice_get items last) []) → OnOk result (new ≡ old ++ flat_map given items)
all_after {Item} {T} {E} given items index last old now result new is least most so more =
    let same : index ≡ last = omega (arith, least, most) in
    let there : now ≡ old ++ flat_map given (take last items) = so ∙ ap (λ n. old ++ flat_map given (take n items)) same in
    on_ok_weaker result (λ one. one_at given items last old now new there one ∙ ap (λ list. old ++ flat_map given list) (take_all (last + 1) items (omega (arith, is)))) more

-- what follows from two clauses on the same result
pub on_ok_both : {T E P Q R : Type 0} (result : Result T E) → (P → Q → R) → OnOk result P → OnOk result Q → OnOk result R
on_ok_both (Ok value) follows one other = follows one other
on_ok_both (Err fault) follows one other = tt
