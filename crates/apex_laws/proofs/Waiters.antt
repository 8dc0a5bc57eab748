-- The entries of a waiting set: a fact about each of them, and the one that goes on first.
use Rattle.std.proofs.Common.{◌≡◌, ℕ, zero, suc, List, [], ◌∷◌, ◌++◌, Bool, true, false, cond, Option, Some, None, refl, sym, ap, subst, ◌∙◌, true≢false, ◌||◌}
use Rattle.apex_laws.proofs.Common.{AllEntries, Discipline, Entry, Who, first_waiter, has_entry_in, is_named, is_same, precedes, sooner_entry, waiters_of, without}
use Rattle.apex_laws.proofs.Common.{after_first, first_waiters, followed_by, is_same}
use Rattle.apex_laws.proofs.Booleans.{by_test, either_way, other_holds}
use Rattle.apex_laws.proofs.WaitersOf.{same_is}

-- a weaker fact
pub all_weaker : (Fact Weaker : Entry → Type 0) → ((entry : Entry) → Fact entry → Weaker entry) → (entries : List Entry)
    → AllEntries Fact entries → AllEntries Weaker entries
all_weaker Fact Weaker weaker [] all = tt
all_weaker Fact Weaker weaker (entry ∷ entries) all = (weaker entry all.0, all_weaker Fact Weaker weaker entries all.1)

-- of those who don't leave, a fact that they have then
pub all_without : (Fact Then : Entry → Type 0) (leaves : Who → Bool) → ((entry : Entry) → leaves entry.who ≡ false → Fact entry → Then entry)
    → (entries : List Entry) → AllEntries Fact entries → AllEntries Then (without leaves entries)
all_without Fact Then leaves then [] all = tt
all_without Fact Then leaves then (entry ∷ entries) all =
    let rest = all_without Fact Then leaves then entries all.1 in
    by_test (AllEntries Then) (leaves entry.who) (without leaves entries) (entry ∷ without leaves entries) (λ passed. rest) (λ stays. (then entry stays all.0, rest))

-- one more entry
pub all_push : (Fact : Entry → Type 0) (entries : List Entry) (entry : Entry) → AllEntries Fact entries → Fact entry → AllEntries Fact (entries ++ entry ∷ [])
all_push Fact [] entry all one = (one, tt)
all_push Fact (other ∷ entries) entry all one = (all.0, all_push Fact entries entry all.1 one)

-- if none leaves, the set stays
pub none_leaves : (Fact : Entry → Type 0) (leaves : Who → Bool) → ((entry : Entry) → Fact entry → leaves entry.who ≡ false)
    → (entries : List Entry) → AllEntries Fact entries → without leaves entries ≡ entries
none_leaves Fact leaves stays [] all = refl
none_leaves Fact leaves stays (entry ∷ entries) all =
    rw (stays entry all.0) (ap (λ others. entry ∷ others) (none_leaves Fact leaves stays entries all.1))

-- if the same processes leave, the same stay
pub without_same : (leaves other : Who → Bool) → ((who : Who) → leaves who ≡ other who) → (entries : List Entry) → without leaves entries ≡ without other entries
without_same leaves other same [] = refl
without_same leaves other same (entry ∷ entries) =
    let rest = without_same leaves other same entries in
    λ i. cond (same entry.who i) (rest i) (entry ∷ rest i)

-- the first of a set has what each of its entries has
pub first_has : (Fact : Entry → Type 0) (discipline : Discipline) (entries : List Entry) (entry : Entry) → AllEntries Fact entries
    → first_waiter discipline entries ≡ Some entry → Fact entry
first_has Fact discipline [] entry all first = cc
first_has Fact discipline (other ∷ entries) entry all first =
    let here : Some other ≡ Some entry → Fact entry = λ some. let same : other ≡ entry = cc in subst Fact same all.0 in
    elim (first_waiter discipline entries) as (λ found. first_waiter discipline entries ≡ found → sooner_entry discipline other found ≡ Some entry → Fact entry) [
      | None ↦ λ none some. here some
      | Some next ↦ λ is some. by_test (λ first. first ≡ Some entry → Fact entry) (precedes discipline next other) (Some next) (Some other)
          (λ before some. first_has Fact discipline entries entry all.1 (is ∙ some)) (λ after some. here some) some
    ] refl first

-- so have the first entries of a set
pub firsts_have : (Fact : Entry → Type 0) (discipline : Discipline) (count : ℕ) (entries : List Entry) → AllEntries Fact entries
    → AllEntries Fact (first_waiters discipline count entries)
firsts_have Fact discipline zero entries all = tt
firsts_have Fact discipline (suc count) entries all =
    by (first_waiter discipline entries) refl
    (λ leaves. firsts_have Fact discipline count (without leaves entries) (all_without Fact Fact leaves (λ entry stays fact. fact) entries all))
  where
    by : (first : Option Entry) → first_waiter discipline entries ≡ first → ((leaves : Who → Bool) → AllEntries Fact (first_waiters discipline count (without leaves entries)))
        → AllEntries Fact (followed_by first (first_waiters discipline count (after_first first entries)))
    by None is rest = tt
    by (Some first) is rest = (first_has Fact discipline entries first all is, rest (is_same first.who))

-- a list that names one process
pub only_named : (Fact : Who → Type 0) (one who : Who) → Fact one → is_named who (one ∷ []) ≡ true → Fact who
only_named Fact one who fact named =
    either_way (is_same who one) (λ same. subst Fact (sym (same_is who one same)) fact) (λ differs. absurd (true≢false (sym named ∙ rw differs refl)))

-- a list that names those of a set
pub all_named : (Fact : Who → Type 0) (entries : List Entry) → AllEntries (λ entry. Fact entry.who) entries → (who : Who)
    → is_named who (waiters_of entries) ≡ true → Fact who
all_named Fact [] all who named = absurd (true≢false (sym named))
all_named Fact (entry ∷ entries) all who named =
    either_way (is_same who entry.who) (λ same. subst Fact (sym (same_is who entry.who same)) all.0)
    (λ differs. all_named Fact entries all.1 who (other_holds _ _ named differs))

-- a process that lacks what each entry has is that of no entry
pub member_not : (Fact : Who → Type 0) (who : Who) → (Fact who → ⊥) → (entries : List Entry) → AllEntries (λ entry. Fact entry.who) entries
    → has_entry_in who entries ≡ false
member_not Fact who lacks [] all = refl
member_not Fact who lacks (entry ∷ entries) all =
    either_way (is_same who entry.who) (λ same. absurd (lacks (subst Fact (sym (same_is who entry.who same)) all.0)))
    (λ differs. rw differs (member_not Fact who lacks entries all.1))

-- those who leave first, and those who leave then
pub without_without : (first second : Who → Bool) (entries : List Entry) → without second (without first entries) ≡ without (λ who. first who || second who) entries
without_without first second [] = refl
without_without first second (entry ∷ entries) =
    elim (first entry.who) as (λ passed. without second (cond passed (without first entries) (entry ∷ without first entries))
    ≡ cond (passed || second entry.who) (without (λ who. first who || second who) entries) (entry ∷ without (λ who. first who || second who) entries)) [
      | true ↦ without_without first second entries
      | false ↦ ap (λ others. cond (second entry.who) others (entry ∷ others)) (without_without first second entries)
    ]

-- if each entry leaves or stays alike
pub without_alike : (Fact : Entry → Type 0) (leaves other : Who → Bool) → ((entry : Entry) → Fact entry → leaves entry.who ≡ other entry.who) → (entries : List Entry) → AllEntries Fact entries
    → without leaves entries ≡ without other entries
without_alike Fact leaves other alike [] all = refl
without_alike Fact leaves other alike (entry ∷ entries) all =
    let here = alike entry all.0 in
    let rest = without_alike Fact leaves other alike entries all.1 in
    λ i. cond (here i) (rest i) (entry ∷ rest i)
