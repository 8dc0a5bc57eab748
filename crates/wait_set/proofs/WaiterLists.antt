-- Which lists name exactly those who wait, each once.
use Rattle.std.proofs.Common.{◌≡◌, ◌<◌, ◌≤◌, ℕ, List, [], ◌∷◌, Bool, true, false, ◌||◌, ◌&&◌, nat_eq, nat_lt, length, get_or, refl, sym, ap, ◌∙◌, arith, inl, inr, true≢false}
use Rattle.std.proofs.lemmas.Bool.{and_from, and_parts, cases_Bool, eqb-true}
use Rattle.std.proofs.lemmas.Bool.Decides.{nat_tests}
use Rattle.std.proofs.lemmas.Map.Made.{length-from_same_keys, length-le_from_is_member}
use Rattle.std.specs.Cmp.{IsEquivalence}
use Rattle.std.specs.List.{AllByRecursion, IsDistinct, list_all}
use Rattle.apex_types.specs.declared.record.Who.{Who}
use Rattle.apex_types.specs.Rising.{IsRising, RisesFrom, is_listed_before}
use Rattle.apex_machine.specs.declared.state.Entry.{Entry}
use Rattle.apex_machine.specs.Answer.{NamesExactly, waiters_of}
use Rattle.apex_machine.specs.Demands.{has_entry_in}
use Rattle.apex_machine.specs.State.{is_named, is_same}
use Rattle.wait_set.specs.Sets.{NobodyTwice}
use Rattle.wait_set.proofs.Tests.{neither, neither_first, neither_later}
use Rattle.wait_set.proofs.WaitersOf.{is_named-any, same_is, same_itself, same_swap, is_member-named}

-- lists that rise

-- who comes after another is another
listed_before_apart : (last who : Who) → is_listed_before last who ≡ true → is_same last who ≡ false
listed_before_apart last who those_after = by last.part last.proc who.part who.proc those_after
  where
    by : (a b p q : ℕ) → (nat_lt a p || (nat_eq a p && nat_lt b q)) ≡ true → (nat_eq a p && nat_eq b q) ≡ false
    by a b p q is = grind (arith, nat_tests)

-- after a process that comes after another is after that one
listed_before_both : (low last who : Who) → is_listed_before low last ≡ true → is_listed_before last who ≡ true → is_listed_before low who ≡ true
listed_before_both low last who one other = by low.part low.proc last.part last.proc who.part who.proc one other
  where
    by : (a b c d e f : ℕ) → (nat_lt a c || (nat_eq a c && nat_lt b d)) ≡ true → (nat_lt c e || (nat_eq c e && nat_lt d f)) ≡ true
        → (nat_lt a e || (nat_eq a e && nat_lt b f)) ≡ true
    by a b c d e f first second = grind (arith, nat_tests)

-- a process before a list that rises is not named by it
unnamed_below : (low last : Who) (others : List Who) → is_listed_before low last ≡ true → RisesFrom last others → is_named low others ≡ false
unnamed_below low last [] below rises = refl
unnamed_below low last (who ∷ others) below rises =
    let further = listed_before_both low last who below rises.0 in
    neither _ _ (listed_before_apart low who further) (unnamed_below low who others further rises.1)

-- nor is the one that it rises from
unnamed_from : (last : Who) (others : List Who) → RisesFrom last others → is_named last others ≡ false
unnamed_from last [] rises = refl
unnamed_from last (who ∷ others) rises = neither _ _ (listed_before_apart last who rises.0) (unnamed_below last who others rises.0 rises.1)

-- in a list that rises, no process occurs twice
pub once-rising : (named : List Who) → IsRising named → NobodyTwice named
once-rising [] rising = tt
once-rising (who ∷ others) rising = (unnamed_from who others rising, once-rising others (rest who others rising))
  where
    rest : (last : Who) (more : List Who) → RisesFrom last more → IsRising more
    rest last [] rises = tt
    rest last (next ∷ more) rises = rises.1

-- counting

-- sameness of processes is an equivalence
same_laws : IsEquivalence is_same
same_laws = record {
  refl = same_itself;
  symm = same_swap;
  congr = λ one other third same. ap (λ who. is_same who third) (same_is one other same);
}

-- if no process occurs twice, each differs from those after it
distinct : (named : List Who) → NobodyTwice named → IsDistinct is_same named
unfolding IsDistinct
distinct [] once = tt
distinct (who ∷ others) once = (apart others once.0, distinct others once.1)
  where
    apart : (more : List Who) → is_named who more ≡ false → AllByRecursion (λ other. is_same who other ≡ false) more
    apart [] none = tt
    apart (other ∷ more) none = (neither_first _ _ none, apart more (neither_later _ _ none))

-- as many are named as wait
length-waiters_of : (entries : List Entry) → length (waiters_of entries) ≡ length entries
length-waiters_of [] = refl
length-waiters_of (entry ∷ entries) = omega (arith, length-waiters_of entries)

-- a list that names exactly those who wait, each once, is as long as the set
pub waiter_list-length : (entries : List Entry) (named : List Who) → NobodyTwice (waiters_of entries) → NamesExactly (waiters_of entries) named → NobodyTwice named
    → length named ≡ length entries
waiter_list-length entries named once exact once_named =
    length-from_same_keys same_laws named (waiters_of entries) (distinct named once_named) (distinct (waiters_of entries) once)
    (λ who. sym (is_named-any who named) ∙ exact who ∙ is_named-any who (waiters_of entries))
    ∙ length-waiters_of entries

-- as many processes as wait, each once, are all that wait
pub waiter_list-exact : (entries : List Entry) (named : List Who) → NobodyTwice (waiters_of entries) → NobodyTwice named → length named ≡ length entries
    → ((who : Who) → is_named who named ≡ true → has_entry_in who entries ≡ true) → NamesExactly (waiters_of entries) named
waiter_list-exact entries named once once_named same_length are_there who =
    elim (cases_Bool (is_named who named)) [
      | inl is ↦ is ∙ sym (is_member-named who entries ∙ are_there who is)
      | inr not_named ↦
          elim (cases_Bool (is_named who (waiters_of entries))) [
            | inl waits ↦ absurd (too_many not_named waits)
            | inr absent ↦ not_named ∙ sym absent
          ]
    ]
  where
    among : is_named who (waiters_of entries) ≡ true → (other : Who) → is_named other (who ∷ named) ≡ true → is_named other (waiters_of entries) ≡ true
    among waits other is =
        elim (cases_Bool (is_same other who)) [
          | inl same ↦ ap (λ w. is_named w (waiters_of entries)) (same_is other who same) ∙ waits
          | inr differs ↦ is_member-named other entries ∙ are_there other (rw differs at is)
        ]

    too_many : is_named who named ≡ false → is_named who (waiters_of entries) ≡ true → ⊥
    too_many not_named waits =
        let more : length (who ∷ named) ≤ length (waiters_of entries) =
        length-le_from_is_member same_laws (who ∷ named) (waiters_of entries) (distinct (who ∷ named) (not_named, once_named))
        (λ other is. sym (is_named-any other (waiters_of entries)) ∙ among waits other (is_named-any other (who ∷ named) ∙ is)) in
        omega (arith, length-waiters_of entries)

-- all processes that a list names wait, if the search says so
pub all-listed : (entries : List Entry) (named : List Who) → list_all (λ who. has_entry_in who entries) named ≡ true
    → (who : Who) → is_named who named ≡ true → has_entry_in who entries ≡ true
all-listed entries [] all who is = absurd (true≢false (sym is))
all-listed entries (other ∷ others) all who is =
    let parts = and_parts (has_entry_in other entries) (list_all (λ one. has_entry_in one entries) others) all in
    elim (cases_Bool (is_same who other)) [
      | inl same ↦ ap (λ w. has_entry_in w entries) (same_is who other same) ∙ parts.0
      | inr differs ↦ all-listed entries others parts.1 who (rw differs at is)
    ]

-- and the search says so if they do
pub listed-all : (entries : List Entry) (named : List Who) → ((who : Who) → is_named who named ≡ true → has_entry_in who entries ≡ true)
    → list_all (λ who. has_entry_in who entries) named ≡ true
listed-all entries [] are_there = refl
listed-all entries (who ∷ others) are_there =
    and_from _ _ (are_there who (rw (same_itself who) refl)) (listed-all entries others (λ other is. are_there other (later other is)))
  where
    later : (other : Who) → is_named other others ≡ true → is_named other (who ∷ others) ≡ true
    later other is = elim (cases_Bool (is_same other who)) [ inl e ↦ rw e refl | inr e ↦ rw e is ]

-- one process, or none

-- a list that names one process names no other at its head
named-head : (who first : Who) (others : List Who) → NamesExactly (who ∷ []) (first ∷ others) → first ≡ who
named-head who first others exact =
    elim (cases_Bool (is_same first who)) [
      | inl same ↦ same_is first who same
      | inr differs ↦
          let is : is_named first (first ∷ others) ≡ true = rw (same_itself first) refl in
          let not : is_named first (who ∷ []) ≡ false = rw differs refl in
          absurd (true≢false (sym is ∙ exact first ∙ not))
    ]

-- a list of one process names it alone
pub names-one : (who only : Who) (named : List Who) → 1 ≤ length named → length named < 2 → only ≡ get_or named 0 only
    → is_same only who ≡ true → NamesExactly (who ∷ []) named
names-one who only [] some few is same = absurd (omega arith)
names-one who only (first ∷ []) some few is same = λ other. ap (λ w. is_same other w || false) (sym is ∙ same_is only who same)
names-one who only (first ∷ second ∷ others) some few is same = absurd (omega arith)

-- and if it names only that one, it is that one
pub one-named : (who only : Who) (named : List Who) → 1 ≤ length named → only ≡ get_or named 0 only → NamesExactly (who ∷ []) named
    → is_same only who ≡ true
one-named who only [] some is exact = absurd (omega arith)
one-named who only (first ∷ others) some is exact = ap (λ w. is_same w who) (is ∙ named-head who first others exact) ∙ same_itself who

-- a list of no process names none alone
pub none-named : (who : Who) (named : List Who) → length named < 1 → ¬ NamesExactly (who ∷ []) named
none-named who [] few exact =
    let is : is_named who (who ∷ []) ≡ true = rw (same_itself who) refl in
    true≢false (sym is ∙ sym (exact who))
none-named who (first ∷ others) few exact = omega arith

-- a list of several that rises names none alone
pub several-named : (who : Who) (named : List Who) → 2 ≤ length named → IsRising named → ¬ NamesExactly (who ∷ []) named
several-named who [] some rising exact = omega arith
several-named who (first ∷ []) some rising exact = omega arith
several-named who (first ∷ second ∷ others) some rising exact =
    let here : first ≡ who = named-head who first (second ∷ others) exact in
    let apart = listed_before_apart first second rising.0 in
    let is : is_named second (first ∷ second ∷ others) ≡ true = both (is_same second first) refl in
    let also : is_same second who ≡ true = alone (is_same second who) (sym (exact second) ∙ is) in
    true≢false (sym (ap (λ w. is_same w second) (here ∙ sym (same_is second who also)) ∙ same_itself second) ∙ apart)
  where
    both : (b : Bool) → is_same second first ≡ b → (b || is_named second (second ∷ others)) ≡ true
    both true e = refl
    both false e = rw (same_itself second) refl

    alone : (b : Bool) → (b || false) ≡ true → b ≡ true
    alone true is = refl
    alone false is = is

-- an empty list names no process
pub empty-names : (named : List Who) → nat_eq (length named) 0 ≡ true → NamesExactly [] named
empty-names [] none = λ who. refl
empty-names (first ∷ others) none =
    let size : length (first ∷ others) ≡ 0 = eqb-true (length (first ∷ others)) 0 none in
    absurd (omega arith)

-- and if it names none, it is empty
pub names-empty : (named : List Who) → NamesExactly [] named → nat_eq (length named) 0 ≡ true
names-empty [] exact = refl
names-empty (first ∷ others) exact =
    let is : is_named first (first ∷ others) ≡ true = rw (same_itself first) refl in
    absurd (true≢false (sym is ∙ exact first))

-- a process that is named by a list that names exactly those that wait waits
pub is_member-exact : (entries : List Entry) (named : List Who) → NamesExactly (waiters_of entries) named → (who : Who) → is_named who named ≡ true
    → has_entry_in who entries ≡ true
is_member-exact entries named exact who is = sym (is_member-named who entries) ∙ sym (exact who) ∙ is
