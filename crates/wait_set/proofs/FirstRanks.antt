-- The first ranks that are kept are those of the first entries of the set.
use Rattle.std.proofs.Common.{◌≡◌, ℕ, zero, suc, List, [], ◌∷◌, Option, Some, None, Bool, true, false, ◌||◌, ◌&&◌, nat_eq, nat_lt, arith, cond, length, min, take, option_map, refl, sym, ap, ◌∙◌, subst, inl, inr, true≢false}
use Rattle.std.proofs.lemmas.Bool.{cases_Bool}
use Rattle.std.proofs.lemmas.Bool.Decides.{nat_tests}
use Rattle.std.specs.BTreeMap.{is_at}
use Rattle.std.specs.List.{AllByRecursion, list_all, list_any}
use Rattle.std.specs.List.Sorted.{IsStrictlySortedBy}
use Rattle.std.specs.Option.{is_some}
use Rattle.std.specs.Ordering.{is_eq, is_gt}
use Rattle.std.specs.declared.cmp.Ordering.TheVariants.{Less}
use Rattle.apex_types.specs.declared.discipline.Discipline.{Discipline}
use Rattle.apex_types.specs.declared.record.Who.{Who}
use Rattle.apex_machine.specs.declared.state.Entry.{Entry}
use Rattle.apex_machine.specs.Answer.{waiters_of}
use Rattle.apex_machine.specs.Demands.{has_entry_in}
use Rattle.apex_machine.specs.State.{is_named, is_same}
use Rattle.apex_machine.specs.Waiting.{after_first, first_waiter, first_waiters, followed_by, precedes, sooner_entry, without}
use Rattle.wait_set.specs.declared.rank.Rank.{Rank}
use Rattle.wait_set.specs.contracts.rank.RankOrd.TheImpl as rank_order
use Rattle.wait_set.specs.Kept.{has_rank, is_rank}
use Rattle.wait_set.specs.Ranks.{rank_of}
use Rattle.wait_set.specs.Sets.{NobodyTwice, PlacesRise, entry_of, without_one}
use Rattle.wait_set.proofs.Firsts.{first_is_its_own, first_ranked, rank_itself, rank_same}
use Rattle.wait_set.proofs.Leaving.{entry_of-is_member, has_rank-without, once-without, rank_swap, rising-without, unnamed-without, without-absent}
use Rattle.wait_set.proofs.Orders.{rank_above, rank_is, rank_precedes}
use Rattle.wait_set.proofs.Tests.{neither}
use Rattle.wait_set.proofs.WaitersOf.{is_member-named, same_apart, same_is, same_itself, same_swap}

-- who is the first leaves, whichever way round they are compared
pub without-swap : (who : Who) (entries : List Entry) → without (is_same who) entries ≡ without_one who entries
without-swap who [] = refl
without-swap who (entry ∷ entries) =
    λ i. cond (same_swap who entry.who i) (without-swap who entries i) (entry ∷ without-swap who entries i)

-- an entry of a set has its rank there
has_own_rank : (discipline : Discipline) (who : Who) (entry : Entry) (entries : List Entry) → entry_of who entries ≡ Some entry → has_rank discipline (rank_of discipline entry) entries ≡ true
has_own_rank discipline who entry [] found = cc
has_own_rank discipline who entry (other ∷ others) found =
    elim (cases_Bool (is_same who other.who)) [
      | inl same ↦
          let here : Some other ≡ Some entry = rw same at found in
          let is : other ≡ entry = cc in
          subst (λ (one : Entry). has_rank discipline (rank_of discipline one) (other ∷ others) ≡ true) is (rw (rank_itself (rank_of discipline other)) refl)
      | inr differs ↦ either (is_rank (rank_of discipline entry) (rank_of discipline other)) (has_own_rank discipline who entry others (rw differs at found))
    ]
  where
    either : (here : Bool) → has_rank discipline (rank_of discipline entry) others ≡ true → (here || has_rank discipline (rank_of discipline entry) others) ≡ true
    either true later = refl
    either false later = later

-- another process keeps its entry
entry_of-without : (who gone : Who) (entries : List Entry) → is_same who gone ≡ false → entry_of who (without_one gone entries) ≡ entry_of who entries
entry_of-without who gone [] apart = refl
entry_of-without who gone (entry ∷ entries) apart =
    elim (cases_Bool (is_same entry.who gone)) [
      | inl goes ↦ rw (goes, same_swap who entry.who ∙ same_apart entry.who who gone apart goes) (entry_of-without who gone entries apart)
      | inr stays ↦ rw stays (ap (λ found. cond (is_same who entry.who) (Some entry) found) (entry_of-without who gone entries apart))
    ]

-- a rank that comes before others is none of them
above_apart : (rank : Rank) (ranks : List Rank) → AllByRecursion (λ other. rank_order.cmp-value.it rank other ≡ Less) ranks → list_any (is_rank rank) ranks ≡ false
above_apart rank [] all = refl
above_apart rank (other ∷ others) all =
    let differs : is_rank rank other ≡ false = sym (rank_is rank other) ∙ ap is_eq all.0 in
    rw differs (above_apart rank others all.1)

-- a rank does not precede itself
not_before : (a p : ℕ) → (nat_lt a a || (nat_eq a a && nat_lt p p)) ≡ false
not_before a p = grind (arith, nat_tests)

-- and none of them precedes it
found_above : (rank other : Rank) (ranks : List Rank) → AllByRecursion (λ one. rank_order.cmp-value.it rank one ≡ Less) ranks → list_any (is_rank other) ranks ≡ true
    → rank_precedes other rank ≡ false
found_above rank other [] all is = absurd (true≢false (sym is))
found_above rank other (next ∷ ranks) all is =
    elim (cases_Bool (is_rank other next)) [
      | inl same ↦ sym (rank_above other rank) ∙ ap (λ one. is_gt (rank_order.cmp-value.it rank one)) (rank_same other next same) ∙ ap is_gt all.0
      | inr differs ↦ found_above rank other ranks all.1 (rw differs at is)
    ]

above_first : (rank other : Rank) (ranks : List Rank) → AllByRecursion (λ one. rank_order.cmp-value.it rank one ≡ Less) ranks → list_any (is_rank other) (rank ∷ ranks) ≡ true
    → rank_precedes other rank ≡ false
above_first rank other ranks all is =
    elim (cases_Bool (is_rank other rank)) [
      | inl same ↦ ap (λ one. rank_precedes one rank) (rank_same other rank same) ∙ not_before rank.urgency.0 rank.place
      | inr differs ↦ found_above rank other ranks all (rw differs at is)
    ]

-- the ranks after the first are those of the entries that are left
later_ranks : (rank one : Rank) (ranks : List Rank) (has : Bool) → AllByRecursion (λ other. rank_order.cmp-value.it rank other ≡ Less) ranks
    → list_any (is_rank one) (rank ∷ ranks) ≡ has → cond (is_rank rank one) false has ≡ list_any (is_rank one) ranks
later_ranks rank one ranks has all is =
    elim (cases_Bool (is_rank rank one)) [
      | inl same ↦ rw same (sym (subst (λ (other : Rank). list_any (is_rank other) ranks ≡ false) (rank_same rank one same) (above_apart rank ranks all)))
      | inr differs ↦ rw differs (sym is ∙ ap (λ here. here || list_any (is_rank one) ranks) (rank_swap one rank ∙ differs))
    ]

not_gone : (here others : Bool) → cond here false others ≡ true → here ≡ false
not_gone true others is = absurd (true≢false (sym is))
not_gone false others is = refl

-- an entry's rank is one of the first ranks exactly if its process is one of the first
pub first_ranks : (discipline : Discipline) (count : ℕ) (ranks : List Rank) (entries : List Entry) → IsStrictlySortedBy rank_order.cmp-value.it ranks
    → ((rank : Rank) → list_any (is_rank rank) ranks ≡ has_rank discipline rank entries) → PlacesRise entries → NobodyTwice (waiters_of entries)
    → (who : Who) (entry : Entry) → entry_of who entries ≡ Some entry
    → list_any (is_rank (rank_of discipline entry)) (take count ranks) ≡ is_named who (waiters_of (first_waiters discipline count entries))
unfolding IsStrictlySortedBy
first_ranks discipline zero ranks entries sorted ranked rising once who entry found = refl
first_ranks discipline (suc count) [] entries sorted ranked rising once who entry found =
    absurd (true≢false (sym (has_own_rank discipline who entry entries found) ∙ sym (ranked (rank_of discipline entry))))
first_ranks discipline (suc count) (rank ∷ ranks) entries sorted ranked rising once who entry found =
    let first = first_ranked discipline rank entries rising (sym (ranked rank) ∙ rw (rank_itself rank) refl)
    (λ other has. above_first rank other ranks sorted.0 (ranked other ∙ has)) in
    let gone : Entry = first.0 in
    let own = first_is_its_own discipline entries gone once first.1 in
    let left : (one : Rank) → has_rank discipline one (without_one gone.who entries) ≡ cond (is_rank (rank_of discipline gone) one) false (has_rank discipline one entries) =
    λ one. has_rank-without discipline one gone.who gone entries rising once own in
    let kept : (one : Rank) → list_any (is_rank one) ranks ≡ has_rank discipline one (without_one gone.who entries) =
    λ one. sym (left one ∙ ap (λ other. cond (is_rank other one) false (has_rank discipline one entries)) (sym first.2)
    ∙ later_ranks rank one ranks (has_rank discipline one entries) sorted.0 (ranked one)) in
    let named : is_named who (waiters_of (first_waiters discipline (suc count) entries))
    ≡ (is_same who gone.who || is_named who (waiters_of (first_waiters discipline count (without_one gone.who entries)))) =
    ap (λ one. is_named who (waiters_of (followed_by one (first_waiters discipline count (after_first one entries))))) first.1
    ∙ ap (λ rest. is_same who gone.who || is_named who (waiters_of (first_waiters discipline count rest))) (without-swap gone.who entries) in
    elim (cases_Bool (is_same who gone.who)) [
      | inl same ↦
          let both : Some entry ≡ Some gone = sym found ∙ ap (λ one. entry_of one entries) (same_is who gone.who same) ∙ own in
          let is : entry ≡ gone = cc in
          let here : is_rank (rank_of discipline entry) rank ≡ true = ap (λ one. is_rank (rank_of discipline entry) one) (first.2 ∙ ap (rank_of discipline) (sym is)) ∙ rank_itself (rank_of discipline entry) in
          ap (λ one. one || list_any (is_rank (rank_of discipline entry)) (take count ranks)) here
          ∙ sym (named ∙ ap (λ one. one || is_named who (waiters_of (first_waiters discipline count (without_one gone.who entries)))) same)
      | inr apart ↦
          let later = entry_of-without who gone.who entries apart ∙ found in
          let other : is_rank (rank_of discipline gone) (rank_of discipline entry) ≡ false =
          not_gone (is_rank (rank_of discipline gone) (rank_of discipline entry)) (has_rank discipline (rank_of discipline entry) entries)
          (sym (left (rank_of discipline entry)) ∙ has_own_rank discipline who entry (without_one gone.who entries) later) in
          let here : is_rank (rank_of discipline entry) rank ≡ false =
          rank_swap (rank_of discipline entry) rank ∙ ap (λ one. is_rank one (rank_of discipline entry)) first.2 ∙ other in
          ap (λ one. one || list_any (is_rank (rank_of discipline entry)) (take count ranks)) here
          ∙ first_ranks discipline count ranks (without_one gone.who entries) sorted.1 kept (rising-without (λ one. is_same one gone.who) entries rising)
          (once-without (λ one. is_same one gone.who) entries once) who entry later
          ∙ sym (named ∙ ap (λ one. one || is_named who (waiters_of (first_waiters discipline count (without_one gone.who entries)))) apart)
    ]

-- the first of a set is one of those that wait
pub first_named : (discipline : Discipline) (entries : List Entry) (first : Entry) → first_waiter discipline entries ≡ Some first
    → is_named first.who (waiters_of entries) ≡ true
first_named discipline [] first is = cc
first_named discipline (entry ∷ entries) first is = by (first_waiter discipline entries) refl is (first_named discipline entries)
  where
    own : entry ≡ first → is_named first.who (waiters_of (entry ∷ entries)) ≡ true
    own same = subst (λ (one : Entry). is_named one.who (waiters_of (entry ∷ entries)) ≡ true) same (rw (same_itself entry.who) refl)

    either : (here : Bool) → is_named first.who (waiters_of entries) ≡ true → (here || is_named first.who (waiters_of entries)) ≡ true
    either true later = refl
    either false later = later

    by : (found : Option Entry) → first_waiter discipline entries ≡ found → sooner_entry discipline entry found ≡ Some first
        → ((other : Entry) → first_waiter discipline entries ≡ Some other → is_named other.who (waiters_of entries) ≡ true)
        → is_named first.who (waiters_of (entry ∷ entries)) ≡ true
    by None e is_first rest = own (let same : entry ≡ first = cc in same)
    by (Some other) e is_first rest =
        elim (cases_Bool (precedes discipline other entry)) [
          | inl sooner ↦
              let chosen : Some other ≡ Some first = rw sooner at is_first in
              let same : other ≡ first = cc in
              either (is_same first.who entry.who) (subst (λ (one : Entry). is_named one.who (waiters_of entries) ≡ true) same (rest other e))
          | inr later ↦
              let chosen : Some entry ≡ Some first = rw later at is_first in
              own (let same : entry ≡ first = cc in same)
        ]

-- who does not wait is not among the first that wait
pub firsts_unnamed : (discipline : Discipline) (count : ℕ) (who : Who) (entries : List Entry) → is_named who (waiters_of entries) ≡ false
    → is_named who (waiters_of (first_waiters discipline count entries)) ≡ false
firsts_unnamed discipline zero who entries none = refl
firsts_unnamed discipline (suc count) who entries none =
    by (first_waiter discipline entries) refl (λ leaves. firsts_unnamed discipline count who (without leaves entries) (unnamed-without leaves who entries none))
  where
    by : (first : Option Entry) → first_waiter discipline entries ≡ first
        → ((leaves : Who → Bool) → is_named who (waiters_of (first_waiters discipline count (without leaves entries))) ≡ false)
        → is_named who (waiters_of (followed_by first (first_waiters discipline count (after_first first entries)))) ≡ false
    by None is rest = refl
    by (Some first) is rest =
        elim (cases_Bool (is_same who first.who)) [
          | inl same ↦
              absurd (true≢false (sym (first_named discipline entries first is) ∙ ap (λ one. is_named one (waiters_of entries)) (sym (same_is who first.who same)) ∙ none))
          | inr differs ↦ rw differs (rest (is_same first.who))
        ]

-- the same of a process's rank
pub first_ranks_of : (discipline : Discipline) (count : ℕ) (ranks : List Rank) (entries : List Entry) → IsStrictlySortedBy rank_order.cmp-value.it ranks
    → ((rank : Rank) → list_any (is_rank rank) ranks ≡ has_rank discipline rank entries) → PlacesRise entries → NobodyTwice (waiters_of entries)
    → (who : Who) (rank : Rank) → option_map (rank_of discipline) (entry_of who entries) ≡ Some rank
    → list_any (is_rank rank) (take count ranks) ≡ is_named who (waiters_of (first_waiters discipline count entries))
first_ranks_of discipline count ranks entries sorted ranked rising once who rank = by (entry_of who entries) refl
  where
    by : (found : Option Entry) → entry_of who entries ≡ found → option_map (rank_of discipline) found ≡ Some rank
        → list_any (is_rank rank) (take count ranks) ≡ is_named who (waiters_of (first_waiters discipline count entries))
    by None at is = cc
    by (Some entry) at is =
        let same : rank_of discipline entry ≡ rank = cc in
        subst (λ (one : Rank). list_any (is_rank one) (take count ranks) ≡ is_named who (waiters_of (first_waiters discipline count entries))) same
        (first_ranks discipline count ranks entries sorted ranked rising once who entry at)

-- a process without a rank is not among the first
pub unranked_unnamed : (discipline : Discipline) (count : ℕ) (who : Who) (entries : List Entry) → (found : Option Rank)
    → found ≡ option_map (rank_of discipline) (entry_of who entries) → ((rank : Rank) → found ≡ Some rank → ⊥)
    → false ≡ is_named who (waiters_of (first_waiters discipline count entries))
unranked_unnamed discipline count who entries found is none = by (entry_of who entries) refl is
  where
    by : (one : Option Entry) → entry_of who entries ≡ one → found ≡ option_map (rank_of discipline) one → false ≡ is_named who (waiters_of (first_waiters discipline count entries))
    by None at is = sym (firsts_unnamed discipline count who entries (is_member-named who entries ∙ sym (entry_of-is_member who entries) ∙ ap is_some at))
    by (Some entry) at is = absurd (none (rank_of discipline entry) is)

-- the first of a set, each once

-- who left a set is not in it
pub unnamed_gone : (who : Who) (entries : List Entry) → is_named who (waiters_of (without (is_same who) entries)) ≡ false
unnamed_gone who [] = refl
unnamed_gone who (entry ∷ entries) = by (is_same who entry.who) refl (unnamed_gone who entries)
  where
    by : (goes : Bool) → is_same who entry.who ≡ goes → is_named who (waiters_of (without (is_same who) entries)) ≡ false
        → is_named who (waiters_of (cond goes (without (is_same who) entries) (entry ∷ without (is_same who) entries))) ≡ false
    by true is rest = rest
    by false is rest = neither _ _ is rest

-- no process is twice among the first of a set
pub firsts_once : (discipline : Discipline) (count : ℕ) (entries : List Entry) → NobodyTwice (waiters_of entries)
    → NobodyTwice (waiters_of (first_waiters discipline count entries))
firsts_once discipline zero entries once = tt
firsts_once discipline (suc count) entries once =
    by (first_waiter discipline entries) (λ leaves. firsts_once discipline count (without leaves entries) (once-without leaves entries once))
  where
    by : (first : Option Entry) → ((leaves : Who → Bool) → NobodyTwice (waiters_of (first_waiters discipline count (without leaves entries))))
        → NobodyTwice (waiters_of (followed_by first (first_waiters discipline count (after_first first entries))))
    by None rest = tt
    by (Some first) rest =
        (firsts_unnamed discipline count first.who (without (is_same first.who) entries) (unnamed_gone first.who entries), rest (is_same first.who))

-- one entry leaves with a process that waits
length_without : (who : Who) (entries : List Entry) → NobodyTwice (waiters_of entries) → is_named who (waiters_of entries) ≡ true
    → suc (length (without (is_same who) entries)) ≡ length entries
length_without who [] once is = absurd (true≢false (sym is))
length_without who (entry ∷ entries) once is = by (is_same who entry.who) refl is (length_without who entries once.1)
  where
    by : (goes : Bool) → is_same who entry.who ≡ goes → (goes || is_named who (waiters_of entries)) ≡ true
        → (is_named who (waiters_of entries) ≡ true → suc (length (without (is_same who) entries)) ≡ length entries)
        → suc (length (cond goes (without (is_same who) entries) (entry ∷ without (is_same who) entries))) ≡ suc (length entries)
    by true same named rest =
        let none : has_entry_in who entries ≡ false =
        sym (is_member-named who entries) ∙ ap (λ one. is_named one (waiters_of entries)) (same_is who entry.who same) ∙ once.0 in
        ap (λ left. suc (length left)) (without-swap who entries ∙ without-absent who entries none)
    by false apart named rest = ap suc (rest named)

-- a set without a first is empty
no_first : (discipline : Discipline) (entries : List Entry) → first_waiter discipline entries ≡ None → length entries ≡ 0
no_first discipline [] none = refl
no_first discipline (entry ∷ entries) none = absurd (by (first_waiter discipline entries) none)
  where
    by : (found : Option Entry) → sooner_entry discipline entry found ≡ None → ⊥
    by None is = cc
    by (Some other) is =
        elim (cases_Bool (precedes discipline other entry)) [
          | inl sooner ↦ let chosen : Some other ≡ None = rw sooner at is in cc
          | inr later ↦ let chosen : Some entry ≡ None = rw later at is in cc
        ]

-- the first of a set are as many as asked for, or all
pub firsts_length : (discipline : Discipline) (count : ℕ) (entries : List Entry) → NobodyTwice (waiters_of entries)
    → length (first_waiters discipline count entries) ≡ min count (length entries)
firsts_length discipline zero entries once = by (length entries)
  where
    by : (size : ℕ) → 0 ≡ min 0 size
    by size = omega arith
firsts_length discipline (suc count) entries once =
    by (first_waiter discipline entries) refl (λ leaves. firsts_length discipline count (without leaves entries) (once-without leaves entries once))
  where
    one_more : (left size firsts : ℕ) → suc left ≡ size → firsts ≡ min count left → suc firsts ≡ min (suc count) size
    one_more left size firsts more is = omega arith

    no_more : (size : ℕ) → size ≡ 0 → 0 ≡ min (suc count) size
    no_more size none = omega arith

    by : (first : Option Entry) → first_waiter discipline entries ≡ first
        → ((leaves : Who → Bool) → length (first_waiters discipline count (without leaves entries)) ≡ min count (length (without leaves entries)))
        → length (followed_by first (first_waiters discipline count (after_first first entries))) ≡ min (suc count) (length entries)
    by None is rest = no_more (length entries) (no_first discipline entries is)
    by (Some first) is rest =
        one_more (length (without (is_same first.who) entries)) (length entries) (length (first_waiters discipline count (without (is_same first.who) entries)))
        (length_without first.who entries once (first_named discipline entries first is)) (rest (is_same first.who))

-- a search that asks whether each is named asks whether each has an entry
pub all_members : (entries : List Entry) (named : List Who) → list_all (λ who. is_named who (waiters_of entries)) named ≡ list_all (λ who. has_entry_in who entries) named
all_members entries [] = refl
all_members entries (who ∷ others) = rw (is_member-named who entries, all_members entries others) refl
