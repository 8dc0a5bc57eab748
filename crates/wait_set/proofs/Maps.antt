-- What the maps of a waiting set hold after a change of each.
use Rattle.std.proofs.Common.{◌≡◌, ◌<◌, ℕ, List, [], ◌∷◌, Option, Some, Bool, true, false, nat_eq, nat_lt, if◌then◌else◌, refl, sym, ap, ◌∙◌, arith, inl, inr}
use Rattle.std.proofs.lemmas.Bool.{cases_Bool, eq-eqb}
use Rattle.std.proofs.lemmas.Bool.Decides.{nat_tests}
use Rattle.std.specs.BTreeMap.{BTreeMap, UpdatesBy, insert_entry, is_at}
use Rattle.std.specs.BTreeSet.{BTreeSet}
use Rattle.std.specs.BTreeSet as set
use Rattle.std.specs.List.{list_any}
use Rattle.std.specs.Map.{lookup, remove_entry, values_of}
use Rattle.std.specs.Ordering.{nat_cmp}
use Rattle.std.specs.declared.cmp.Ordering.TheVariants.{Greater, Less}
use Rattle.apex_types.specs.declared.record.Who.{Who}
use Rattle.apex_types.specs.contracts.record.WhoOrd.TheImpl as who_order
use Rattle.apex_machine.specs.declared.state.Entry.{Entry}
use Rattle.apex_machine.specs.Answer.{waiters_of}
use Rattle.apex_machine.specs.Demands.{has_entry_in}
use Rattle.apex_machine.specs.State.{is_named, is_same}
use Rattle.wait_set.specs.declared.rank.Rank.{Rank}
use Rattle.wait_set.specs.contracts.rank.RankOrd.TheImpl as rank_order
use Rattle.wait_set.specs.Kept.{by_place, is_rank, place_of}
use Rattle.wait_set.specs.Sets.{NobodyTwice, PlacesRise, entered, entry_of, has_place, without_one}
use Rattle.wait_set.proofs.Leaving.{found-those_after, found-entry, without-absent}
use Rattle.wait_set.proofs.Orders.{number_is, rank_is, who_is}
use Rattle.wait_set.proofs.Tests.{neither_first, neither_later}
use Rattle.wait_set.proofs.WaitersOf.{same_is, same_swap, is_member-named}

-- a search by either of two tests that agree

-- a look-up finds the same
pub lookup-same : {Key : Type 0} {Value : Type 0} → (one other : Key → Bool) → ((key : Key) → one key ≡ other key) → (stored : List (Key × Value))
    → lookup one stored ≡ lookup other stored
lookup-same one other same [] = refl
lookup-same one other same (first ∷ rest) = rw (same first.0, lookup-same one other same rest) refl

-- so does a search in a list
pub any-same : {Key : Type 0} → (one other : Key → Bool) → ((key : Key) → one key ≡ other key) → (keys : List Key)
    → list_any one keys ≡ list_any other keys
any-same one other same [] = refl
any-same one other same (first ∷ rest) = rw (same first, any-same one other same rest) refl

-- the process's place, in a map that is changed at one process
pub place-updated : (old new : BTreeMap Who ℕ) (who : Who) (place : Option ℕ)
    → UpdatesBy who_order.cmp-value.it (who_order.cmp-value.it who) old new place → (other : Who)
    → lookup (is_same other) new.entries ≡ (if is_same who other then place else lookup (is_same other) old.entries)
place-updated old new who place updates other =
    let after = lookup-same (is_at (who_order.cmp-value.it other)) (is_same other) (who_is other) new.entries in
    let before = lookup-same (is_at (who_order.cmp-value.it other)) (is_same other) (who_is other) old.entries in
    sym after ∙ updates.0 other ∙ rw (who_is who other, before) refl

-- whether a rank is kept, in a set that is changed at one rank
pub rank-updated : (old new : BTreeSet Rank) (rank : Rank) (kept : Bool)
    → set.UpdatesBy rank_order.cmp-value.it (rank_order.cmp-value.it rank) old new kept → (other : Rank)
    → list_any (is_rank other) new.keys ≡ (if is_rank rank other then kept else list_any (is_rank other) old.keys)
rank-updated old new rank kept updates other =
    let after = any-same (is_at (rank_order.cmp-value.it other)) (is_rank other) (rank_is other) new.keys in
    let before = any-same (is_at (rank_order.cmp-value.it other)) (is_rank other) (rank_is other) old.keys in
    sym after ∙ updates.0 other ∙ rw (rank_is rank other, before) refl

-- entries under their places

-- the entries are the values
pub values-by_place : (entries : List Entry) → values_of (by_place entries) ≡ entries
values-by_place [] = refl
values-by_place (entry ∷ entries) = ap (λ rest. entry ∷ rest) (values-by_place entries)

-- an entry of a new place is put where it enters
pub insert-by_place : (entry : Entry) (entries : List Entry) → has_place entry.place entries ≡ false
    → insert_entry nat_cmp (by_place entries) entry.place entry ≡ by_place (entered entry entries)
insert-by_place entry [] new = refl
insert-by_place entry (other ∷ others) new =
    elim (cases_Bool (nat_lt other.place entry.place)) [
      | inl before ↦ rw (before, those_after before) (ap (λ rest. (other.place, other) ∷ rest) (insert-by_place entry others (neither_later _ _ new)))
      | inr not_before ↦ rw (not_before, ahead not_before (neither_first _ _ new)) refl
    ]
  where
    those_after : nat_lt other.place entry.place ≡ true → nat_cmp entry.place other.place ≡ Greater
    those_after before = grind (arith, nat_tests)

    ahead : nat_lt other.place entry.place ≡ false → nat_eq entry.place other.place ≡ false → nat_cmp entry.place other.place ≡ Less
    ahead not_before apart = grind (arith, nat_tests)

-- what is found at the place of a process is its entry
pub lookup-by_place : (who : Who) (place : ℕ) (entries : List Entry) → PlacesRise entries → place_of who entries ≡ Some place
    → lookup (is_at (nat_cmp place)) (by_place entries) ≡ entry_of who entries
lookup-by_place who place [] rising found = refl
lookup-by_place who place (entry ∷ entries) rising found =
    elim (cases_Bool (is_same who entry.who)) [
      | inl same ↦
          let here : Some entry.place ≡ Some place = rw same at found in
          let is : place ≡ entry.place = cc in
          rw (same, number_is place entry.place, eq-eqb place entry.place is) refl
      | inr differs ↦
          let later : place_of who entries ≡ Some place = rw differs at found in
          rw (differs, number_is place entry.place, above later) (lookup-by_place who place entries rising.1 later)
    ]
  where
    above : place_of who entries ≡ Some place → nat_eq place entry.place ≡ false
    above later =
        let has = found-entry who entries place later in
        let below : entry.place < has.0.place = found-those_after who entry.place entries has.0 rising.0 has.1 in
        let is : has.0.place ≡ place = has.2 in
        grind (arith, nat_tests)

-- what is removed at the place of a process is its entry alone
pub remove-by_place : (who : Who) (place : ℕ) (entries : List Entry) → PlacesRise entries → NobodyTwice (waiters_of entries)
    → place_of who entries ≡ Some place → remove_entry (is_at (nat_cmp place)) (by_place entries) ≡ by_place (without_one who entries)
remove-by_place who place [] rising once found = refl
remove-by_place who place (entry ∷ entries) rising once found =
    elim (cases_Bool (is_same who entry.who)) [
      | inl same ↦
          let here : Some entry.place ≡ Some place = rw same at found in
          let is : place ≡ entry.place = cc in
          let named : is_named who (waiters_of entries) ≡ false = ap (λ w. is_named w (waiters_of entries)) (same_is who entry.who same) ∙ once.0 in
          let absent : has_entry_in who entries ≡ false = sym (is_member-named who entries) ∙ named in
          rw (same_swap entry.who who ∙ same, number_is place entry.place, eq-eqb place entry.place is, without-absent who entries absent) refl
      | inr differs ↦
          let later : place_of who entries ≡ Some place = rw differs at found in
          rw (same_swap entry.who who ∙ differs, number_is place entry.place, above later)
          (ap (λ rest. (entry.place, entry) ∷ rest) (remove-by_place who place entries rising.1 once.1 later))
    ]
  where
    above : place_of who entries ≡ Some place → nat_eq place entry.place ≡ false
    above later =
        let has = found-entry who entries place later in
        let below : entry.place < has.0.place = found-those_after who entry.place entries has.0 rising.0 has.1 in
        let is : has.0.place ≡ place = has.2 in
        grind (arith, nat_tests)
