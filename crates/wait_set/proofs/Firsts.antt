-- The entry of the least rank is the one that goes on first.
use Rattle.std.proofs.Common.{◌≡◌, ◌<◌, ℕ, List, [], ◌∷◌, Option, Some, None, true, false, ◌||◌, ◌&&◌, nat_eq, nat_lt, refl, sym, ap, ◌∙◌, subst, length, arith, inl, inr, true≢false}
use Rattle.std.proofs.lemmas.Bool.{and_from, and_parts, cases_Bool, eqb-true, eq-eqb}
use Rattle.std.proofs.lemmas.Bool.Decides.{nat_tests}
use Rattle.std.specs.BTreeMap.{is_at}
use Rattle.std.specs.List.{list_any}
use Rattle.std.specs.Map.{lookup, values_of}
use Rattle.std.specs.Ordering.{is_gt, nat_cmp}
use Rattle.apex_types.specs.declared.discipline.Discipline.{Discipline}
use Rattle.apex_types.specs.declared.record.Who.{Who}
use Rattle.apex_machine.specs.declared.state.Entry.{Entry}
use Rattle.apex_machine.specs.Waiting.{first_waiter, precedes, sooner_entry}
use Rattle.wait_set.specs.declared.rank.Rank.{Rank}
use Rattle.wait_set.specs.contracts.rank.RankOrd.TheImpl as rank_order
use Rattle.wait_set.specs.Kept.{IsKept, by_place, has_rank, is_rank}
use Rattle.wait_set.specs.Ranks.{rank_of}
use Rattle.wait_set.specs.Sets.{NobodyTwice, PlacesRise, AreAfterPlace, entry_of}
use Rattle.wait_set.proofs.Leaving.{entry_of-is_member}
use Rattle.wait_set.proofs.WaitersOf.{same_is, same_itself, is_member-named}
use Rattle.apex_machine.specs.Answer.{waiters_of}
use Rattle.apex_machine.specs.Demands.{has_entry_in}
use Rattle.apex_machine.specs.State.{is_named, is_same}
use Rattle.std.specs.Option.{is_some}
use Rattle.wait_set.proofs.Maps.{any-same}
use Rattle.wait_set.proofs.Orders.{number_is, precedes-rank, rank_above, rank_is, rank_precedes}

-- a rank is itself
pub rank_itself : (rank : Rank) → is_rank rank rank ≡ true
rank_itself rank = and_from _ _ (eq-eqb rank.urgency.0 rank.urgency.0 refl) (eq-eqb rank.place rank.place refl)

-- ranks that agree are one
pub rank_same : (one other : Rank) → is_rank one other ≡ true → one ≡ other
rank_same one other same =
    let parts = and_parts (nat_eq one.urgency.0 other.urgency.0) (nat_eq one.place other.place) same in
    let urgency : one.urgency.0 ≡ other.urgency.0 = eqb-true one.urgency.0 other.urgency.0 parts.0 in
    let place : one.place ≡ other.place = eqb-true one.place other.place parts.1 in
    λ i. record { urgency = record { 0 = urgency i }; place = place i }

-- of two pairs of numbers that differ one precedes the other
pub numbers_total : (a b p q : ℕ) → (nat_lt a b || (nat_eq b a && nat_lt q p)) ≡ false → (nat_eq a b && nat_eq p q) ≡ false
    → (nat_lt b a || (nat_eq a b && nat_lt p q)) ≡ true
numbers_total a b p q later apart = grind (arith, nat_tests)

-- of two ranks that differ one precedes the other
pub rank_total : (one other : Rank) → rank_precedes other one ≡ false → is_rank one other ≡ false → rank_precedes one other ≡ true
rank_total one other later apart = numbers_total one.urgency.0 other.urgency.0 one.place other.place later apart

-- no entry of a set precedes this rank
NoneBefore : Discipline → Rank → List Entry → Type 0
NoneBefore discipline rank [] = Unit {0}
NoneBefore discipline rank (entry ∷ entries) = (rank_precedes (rank_of discipline entry) rank ≡ false) × NoneBefore discipline rank entries

-- if no rank of a set precedes this one, no entry does
none_before : (discipline : Discipline) (rank : Rank) (entries : List Entry)
    → ((other : Rank) → has_rank discipline other entries ≡ true → rank_precedes other rank ≡ false) → NoneBefore discipline rank entries
unfolding NoneBefore
none_before discipline rank [] least = tt
none_before discipline rank (entry ∷ entries) least = (
  least (rank_of discipline entry) (rw (rank_itself (rank_of discipline entry)) refl),
  none_before discipline rank entries (λ other has. least other (either other has)),
)
  where
    either : (other : Rank) → has_rank discipline other entries ≡ true → has_rank discipline other (entry ∷ entries) ≡ true
    either other has =
        elim (cases_Bool (is_rank other (rank_of discipline entry))) [ inl here ↦ rw here refl | inr elsewhere ↦ rw elsewhere has ]

-- the first of a set is one of it
first-before : (discipline : Discipline) (rank : Rank) (entries : List Entry) (first : Entry) → NoneBefore discipline rank entries
    → first_waiter discipline entries ≡ Some first → rank_precedes (rank_of discipline first) rank ≡ false
unfolding NoneBefore
first-before discipline rank [] first none is = cc
first-before discipline rank (entry ∷ entries) first none is =
    by (first_waiter discipline entries) refl is (first-before discipline rank entries)
  where
    by : (found : Option Entry) → first_waiter discipline entries ≡ found → sooner_entry discipline entry found ≡ Some first
        → ((other : Entry) → NoneBefore discipline rank entries → first_waiter discipline entries ≡ Some other → rank_precedes (rank_of discipline other) rank ≡ false)
        → rank_precedes (rank_of discipline first) rank ≡ false
    by None e is_first rest =
        let same : entry ≡ first = cc in
        rw (← same) none.0
    by (Some other) e is_first rest =
        elim (cases_Bool (precedes discipline other entry)) [
          | inl sooner ↦
              let chosen : Some other ≡ Some first = rw sooner at is_first in
              let same : other ≡ first = cc in
              rw (← same) (rest other none.1 e)
          | inr later ↦
              let chosen : Some entry ≡ Some first = rw later at is_first in
              let same : entry ≡ first = cc in
              rw (← same) none.0
        ]

-- a rank of those after a place has a greater place
those_after-rank : (discipline : Discipline) (rank : Rank) (place : ℕ) (entries : List Entry) → AreAfterPlace place entries
    → has_rank discipline rank entries ≡ true → place < rank.place
those_after-rank discipline rank place [] those_after has = absurd (true≢false (sym has))
those_after-rank discipline rank place (entry ∷ entries) those_after has =
    elim (cases_Bool (is_rank rank (rank_of discipline entry))) [
      | inl here ↦
          let parts = and_parts (nat_eq rank.urgency.0 (rank_of discipline entry).urgency.0) (nat_eq rank.place entry.place) here in
          let same : rank.place ≡ entry.place = eqb-true rank.place entry.place parts.1 in
          let above : place < entry.place = those_after.0 in
          rw same above
      | inr elsewhere ↦ those_after-rank discipline rank place entries those_after.1 (rw elsewhere at has)
    ]

-- the entry at the place of a rank of the set has that rank
record RankedAt (discipline : Discipline) (rank : Rank) (entries : List Entry) : Type 0 where
  entry : Entry
  found : lookup (is_at (nat_cmp rank.place)) (by_place entries) ≡ Some entry
  same : rank ≡ rank_of discipline entry

ranked_at : (discipline : Discipline) (rank : Rank) (entries : List Entry) → PlacesRise entries → has_rank discipline rank entries ≡ true
    → RankedAt discipline rank entries
ranked_at discipline rank [] rising has = absurd (true≢false (sym has))
ranked_at discipline rank (entry ∷ entries) rising has =
    elim (cases_Bool (is_rank rank (rank_of discipline entry))) [
      | inl here ↦
          let parts = and_parts (nat_eq rank.urgency.0 (rank_of discipline entry).urgency.0) (nat_eq rank.place entry.place) here in
          record {
            entry = entry;
            found = rw (number_is rank.place entry.place, parts.1) refl;
            same = rank_same rank (rank_of discipline entry) here;
          }
      | inr elsewhere ↦
          let later : has_rank discipline rank entries ≡ true = rw elsewhere at has in
          let above : entry.place < rank.place = those_after-rank discipline rank entry.place entries rising.0 later in
          let apart : nat_eq rank.place entry.place ≡ false = grind (arith, nat_tests) in
          let rest : RankedAt discipline rank entries = ranked_at discipline rank entries rising.1 later in
          record { entry = rest.entry; found = rw (number_is rank.place entry.place, apart) rest.found; same = rest.same }
    ]

-- the entry at the place of the least rank is the first of the set
first_at : (discipline : Discipline) (rank : Rank) (entries : List Entry) → PlacesRise entries → has_rank discipline rank entries ≡ true
    → NoneBefore discipline rank entries → lookup (is_at (nat_cmp rank.place)) (by_place entries) ≡ first_waiter discipline entries
unfolding NoneBefore
first_at discipline rank [] rising has none = refl
first_at discipline rank (entry ∷ entries) rising has none =
    elim (cases_Bool (is_rank rank (rank_of discipline entry))) [
      | inl here ↦
          let parts = and_parts (nat_eq rank.urgency.0 (rank_of discipline entry).urgency.0) (nat_eq rank.place entry.place) here in
          rw (number_is rank.place entry.place, parts.1) (sym (head here (first_waiter discipline entries) refl))
      | inr elsewhere ↦
          let later : has_rank discipline rank entries ≡ true = rw elsewhere at has in
          let above : entry.place < rank.place = those_after-rank discipline rank entry.place entries rising.0 later in
          let apart : nat_eq rank.place entry.place ≡ false = grind (arith, nat_tests) in
          let at : RankedAt discipline rank entries = ranked_at discipline rank entries rising.1 later in
          let first = first_at discipline rank entries rising.1 later none.1 in
          rw (number_is rank.place entry.place, apart, ← first, at.found) (sym (tail elsewhere at))
    ]
  where
    head : is_rank rank (rank_of discipline entry) ≡ true → (found : Option Entry) → first_waiter discipline entries ≡ found
        → sooner_entry discipline entry found ≡ Some entry
    head here None e = refl
    head here (Some other) e =
        let not_before = first-before discipline rank entries other none.1 e in
        let same = rank_same rank (rank_of discipline entry) here in
        let later : precedes discipline other entry ≡ false = precedes-rank discipline other entry ∙ subst (λ (own : Rank). rank_precedes (rank_of discipline other) own ≡ false) same not_before in
        rw later refl

    tail : is_rank rank (rank_of discipline entry) ≡ false → (at : RankedAt discipline rank entries)
        → sooner_entry discipline entry (Some at.entry) ≡ Some at.entry
    tail elsewhere at =
        let before : precedes discipline at.entry entry ≡ true =
        precedes-rank discipline at.entry entry
        ∙ subst (λ (own : Rank). rank_precedes own (rank_of discipline entry) ≡ true) at.same (rank_total rank (rank_of discipline entry) none.0 elsewhere) in
        rw before refl

-- the first of a set has the rank that no rank of the set precedes
pub first_ranked : (discipline : Discipline) (rank : Rank) (entries : List Entry) → PlacesRise entries → has_rank discipline rank entries ≡ true
    → ((other : Rank) → has_rank discipline other entries ≡ true → rank_precedes other rank ≡ false)
    → (first : Entry) × (first_waiter discipline entries ≡ Some first) × (rank ≡ rank_of discipline first)
first_ranked discipline rank entries rising has least =
    let at : RankedAt discipline rank entries = ranked_at discipline rank entries rising has in
    (at.entry, sym (first_at discipline rank entries rising has (none_before discipline rank entries least)) ∙ at.found, at.same)

-- what is found at the place of the least rank that is kept is the first of the set
pub first_of_least : (discipline : Discipline) (stored : List (ℕ × Entry)) (places : List (Who × ℕ)) (ranks : List Rank) (rank : Rank)
    → IsKept discipline stored places ranks → list_any (is_at (rank_order.cmp-value.it rank)) ranks ≡ true
    → ((other : Rank) → list_any (is_at (rank_order.cmp-value.it other)) ranks ≡ true → is_gt (rank_order.cmp-value.it rank other) ≡ false)
    → lookup (is_at (nat_cmp rank.place)) stored ≡ first_waiter discipline (values_of stored)
first_of_least discipline stored places ranks rank kept has least =
    let entries : List Entry = values_of stored in
    let asked : (other : Rank) → list_any (is_at (rank_order.cmp-value.it other)) ranks ≡ has_rank discipline other entries =
    λ other. any-same (is_at (rank_order.cmp-value.it other)) (is_rank other) (rank_is other) ranks ∙ kept.ranked other in
    let found = first_at discipline rank entries kept.rising (sym (asked rank) ∙ has)
    (none_before discipline rank entries (λ other is. sym (rank_above other rank) ∙ least other (asked other ∙ is))) in
    ap (λ list. lookup (is_at (nat_cmp rank.place)) list) kept.under_places ∙ found

-- a list without a first is empty
empty : (ranks : List Rank) → (0 < length ranks → false ≡ true) → ranks ≡ []
empty [] none = refl
empty (rank ∷ ranks) none = absurd (true≢false (sym (none (omega arith))))

-- if no rank is kept, no process is the first
pub first_of_none : (discipline : Discipline) (stored : List (ℕ × Entry)) (places : List (Who × ℕ)) (ranks : List Rank)
    → IsKept discipline stored places ranks → (0 < length ranks → false ≡ true) → first_waiter discipline (values_of stored) ≡ None
first_of_none discipline stored places ranks kept none =
    by (values_of stored) (λ rank. sym (ap (λ list. list_any (is_rank rank) list) (empty ranks none)) ∙ kept.ranked rank)
  where
    by : (entries : List Entry) → ((rank : Rank) → false ≡ has_rank discipline rank entries) → first_waiter discipline entries ≡ None
    by [] ranked = refl
    by (entry ∷ entries) ranked =
        absurd (true≢false (sym (rw (rank_itself (rank_of discipline entry)) at (ranked (rank_of discipline entry)))))

-- the first of a set is the one entry of its process
pub first_is_its_own : (discipline : Discipline) (entries : List Entry) (first : Entry) → NobodyTwice (waiters_of entries)
    → first_waiter discipline entries ≡ Some first → entry_of first.who entries ≡ Some first
first_is_its_own discipline [] first once is = cc
first_is_its_own discipline (entry ∷ entries) first once is =
    by (first_waiter discipline entries) refl is (first_is_its_own discipline entries)
  where
    own : entry ≡ first → entry_of first.who (entry ∷ entries) ≡ Some first
    own same = subst (λ (one : Entry). entry_of one.who (entry ∷ entries) ≡ Some one) same (rw (same_itself entry.who) refl)

    by : (found : Option Entry) → first_waiter discipline entries ≡ found → sooner_entry discipline entry found ≡ Some first
        → ((other : Entry) → NobodyTwice (waiters_of entries) → first_waiter discipline entries ≡ Some other → entry_of other.who entries ≡ Some other)
        → entry_of first.who (entry ∷ entries) ≡ Some first
    by None e is_first rest = own (let same : entry ≡ first = cc in same)
    by (Some other) e is_first rest =
        elim (cases_Bool (precedes discipline other entry)) [
          | inl sooner ↦
              let chosen : Some other ≡ Some first = rw sooner at is_first in
              let same : other ≡ first = cc in
              let later : entry_of first.who entries ≡ Some first =
              subst (λ (one : Entry). entry_of one.who entries ≡ Some one) same (rest other once.1 e) in
              rw (apart later) later
          | inr later ↦
              let chosen : Some entry ≡ Some first = rw later at is_first in
              own (let same : entry ≡ first = cc in same)
        ]
      where
        apart : entry_of first.who entries ≡ Some first → is_same first.who entry.who ≡ false
        apart later =
            elim (cases_Bool (is_same first.who entry.who)) [
              | inl same ↦
                  let is_member : has_entry_in first.who entries ≡ true = sym (entry_of-is_member first.who entries) ∙ ap is_some later in
                  let named : is_named entry.who (waiters_of entries) ≡ true =
                  ap (λ who. is_named who (waiters_of entries)) (sym (same_is first.who entry.who same)) ∙ is_member-named first.who entries ∙ is_member in
                  absurd (true≢false (sym named ∙ once.0))
              | inr differs ↦ differs
            ]
