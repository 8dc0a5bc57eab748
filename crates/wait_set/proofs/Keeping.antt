-- The maps of a waiting set speak of the same entries after each change.
use Rattle.std.proofs.Common.{◌≡◌, ℕ, List, [], ◌∷◌, Option, Some, None, Bool, true, false, nat_eq, if◌then◌else◌, refl, sym, ap, ◌∙◌, inl, inr, true≢false}
use Rattle.std.proofs.lemmas.Bool.{and_parts, cases_Bool, eqb-true}
use Rattle.std.specs.BTreeMap.{BTreeMap, UpdatesBy, insert_entry, is_at}
use Rattle.std.specs.BTreeSet.{BTreeSet}
use Rattle.std.specs.BTreeSet as set
use Rattle.std.specs.List.{list_any}
use Rattle.std.specs.Map.{lookup, remove_entry, values_of}
use Rattle.std.specs.Option.{is_some}
use Rattle.std.specs.Ordering.{nat_cmp}
use Rattle.apex_types.specs.declared.discipline.Discipline.{Discipline}
use Rattle.apex_types.specs.declared.record.Who.{Who}
use Rattle.apex_types.specs.contracts.record.WhoOrd.TheImpl as who_order
use Rattle.apex_machine.specs.declared.state.Entry.{Entry}
use Rattle.apex_machine.specs.Demands.{has_entry_in}
use Rattle.apex_machine.specs.State.{is_same}
use Rattle.wait_set.specs.declared.rank.Rank.{Rank}
use Rattle.wait_set.specs.contracts.rank.RankOrd.TheImpl as rank_order
use Rattle.wait_set.specs.Kept.{IsKept, by_place, has_rank, is_rank, place_of}
use Rattle.wait_set.specs.Ranks.{rank_of}
use Rattle.wait_set.specs.Sets.{IsNew, entered, entry_of, has_place, without_one}
use Rattle.wait_set.proofs.Entries.{found-is_member, has_rank-entered, once-entered, place_of-entered, rising-entered}
use Rattle.wait_set.proofs.Leaving.{has_rank-without, once-without, place_of-without, rank_swap, rising-without}
use Rattle.wait_set.proofs.Maps.{insert-by_place, lookup-by_place, lookup-same, place-updated, rank-updated, remove-by_place, values-by_place}
use Rattle.wait_set.proofs.Orders.{who_is}
use Rattle.wait_set.proofs.Tests.{by_first, neither, neither_first, neither_later}
use Rattle.wait_set.proofs.WaitersOf.{same_is, same_swap}

-- the place that is found for a process
pub asked-place : (discipline : Discipline) (stored : List (ℕ × Entry)) (places : List (Who × ℕ)) (ranks : List Rank) (who : Who) (found : Option ℕ)
    → IsKept discipline stored places ranks → found ≡ lookup (is_at (who_order.cmp-value.it who)) places → found ≡ place_of who (values_of stored)
asked-place discipline stored places ranks who found kept is =
    is ∙ lookup-same (is_at (who_order.cmp-value.it who)) (is_same who) (who_is who) places ∙ kept.found who

-- the entry that is found at the place of a process
pub asked-entry : (discipline : Discipline) (stored : List (ℕ × Entry)) (places : List (Who × ℕ)) (ranks : List Rank) (who : Who) (place : ℕ)
    (found : Option Entry) → IsKept discipline stored places ranks → place_of who (values_of stored) ≡ Some place
    → found ≡ lookup (is_at (nat_cmp place)) stored → found ≡ entry_of who (values_of stored)
asked-entry discipline stored places ranks who place found kept at is =
    is ∙ ap (λ list. lookup (is_at (nat_cmp place)) list) kept.under_places ∙ lookup-by_place who place (values_of stored) kept.rising at

-- a set that one entry more has entered
pub record Entered (discipline : Discipline) (entry : Entry) (stored after : List (ℕ × Entry)) (places : List (Who × ℕ)) (ranks : List Rank) : Type 0 where
  pub values : values_of after ≡ entered entry (values_of stored)
  pub kept : IsKept discipline after places ranks

-- each map changed at the new entry
pub entered-kept : (discipline : Discipline) (entry : Entry) (stored after : List (ℕ × Entry)) (places places_after : BTreeMap Who ℕ)
    (ranks ranks_after : BTreeSet Rank) → IsKept discipline stored places.entries ranks.keys → IsNew entry (values_of stored)
    → after ≡ insert_entry nat_cmp stored entry.place entry
    → UpdatesBy who_order.cmp-value.it (who_order.cmp-value.it entry.who) places places_after (Some entry.place)
    → set.UpdatesBy rank_order.cmp-value.it (rank_order.cmp-value.it (rank_of discipline entry)) ranks ranks_after true
    → Entered discipline entry stored after places_after.entries ranks_after.keys
entered-kept discipline entry stored after places places_after ranks ranks_after kept new inserted placed ranked =
    let entries : List Entry = values_of stored in
    let is : after ≡ by_place (entered entry entries) =
    inserted ∙ ap (λ list. insert_entry nat_cmp list entry.place entry) kept.under_places ∙ insert-by_place entry entries new.1 in
    let values : values_of after ≡ entered entry entries = ap values_of is ∙ values-by_place (entered entry entries) in
    record {
      values = values;
      kept = record {
        under_places = is ∙ ap by_place (sym values);
        rising = rw values (rising-entered entry entries new.1 kept.rising);
        found = λ who. rw values (place-updated places places_after entry.who (Some entry.place) placed who
            ∙ rw (same_swap entry.who who, kept.found who) (sym (place_of-entered who entry entries new.0)));
        ranked = λ rank. rw values (rank-updated ranks ranks_after (rank_of discipline entry) true ranked rank
            ∙ by_first (is_rank (rank_of discipline entry) rank) (list_any (is_rank rank) ranks.keys)
            ∙ rw (rank_swap (rank_of discipline entry) rank, kept.ranked rank) (sym (has_rank-entered discipline rank entry entries)));
        once = rw values (once-entered entry entries new.0 kept.once);
      };
    }

-- a set that a process has left
pub record Left (discipline : Discipline) (who : Who) (stored after : List (ℕ × Entry)) (places : List (Who × ℕ)) (ranks : List Rank) : Type 0 where
  pub values : values_of after ≡ without_one who (values_of stored)
  pub kept : IsKept discipline after places ranks

-- each map changed at a process that has an entry in the set
pub left-kept : (discipline : Discipline) (who : Who) (place : ℕ) (entry : Entry) (stored after : List (ℕ × Entry))
    (places places_after : BTreeMap Who ℕ) (ranks ranks_after : BTreeSet Rank) → IsKept discipline stored places.entries ranks.keys
    → place_of who (values_of stored) ≡ Some place → entry_of who (values_of stored) ≡ Some entry
    → after ≡ remove_entry (is_at (nat_cmp place)) stored
    → UpdatesBy who_order.cmp-value.it (who_order.cmp-value.it who) places places_after None
    → set.UpdatesBy rank_order.cmp-value.it (rank_order.cmp-value.it (rank_of discipline entry)) ranks ranks_after false
    → Left discipline who stored after places_after.entries ranks_after.keys
left-kept discipline who place entry stored after places places_after ranks ranks_after kept at has removed placed ranked =
    let entries : List Entry = values_of stored in
    let leaves : Who → Bool = λ other. is_same other who in
    let is : after ≡ by_place (without_one who entries) =
    removed ∙ ap (λ list. remove_entry (is_at (nat_cmp place)) list) kept.under_places ∙ remove-by_place who place entries kept.rising kept.once at in
    let values : values_of after ≡ without_one who entries = ap values_of is ∙ values-by_place (without_one who entries) in
    record {
      values = values;
      kept = record {
        under_places = is ∙ ap by_place (sym values);
        rising = rw values (rising-without leaves entries kept.rising);
        found = λ other. rw values (place-updated places places_after who None placed other
            ∙ rw (same_swap who other, kept.found other) (sym (place_of-without leaves other entries)));
        ranked = λ rank. rw values (rank-updated ranks ranks_after (rank_of discipline entry) false ranked rank
            ∙ rw (kept.ranked rank) (sym (has_rank-without discipline rank who entry entries kept.rising kept.once has)));
        once = rw values (once-without leaves entries kept.once);
      };
    }

-- no entry of a set has the rank of a place that no entry has
pub unranked : (discipline : Discipline) (rank other : Rank) (entries : List Entry) → has_place rank.place entries ≡ false
    → is_rank rank other ≡ true → has_rank discipline other entries ≡ false
unranked discipline rank other [] new same = refl
unranked discipline rank other (entry ∷ entries) new same =
    let parts = and_parts (nat_eq rank.urgency.0 other.urgency.0) (nat_eq rank.place other.place) same in
    let place : rank.place ≡ other.place = eqb-true rank.place other.place parts.1 in
    neither _ _ (apart place (neither_first _ _ new)) (unranked discipline rank other entries (neither_later _ _ new) same)
  where
    apart : rank.place ≡ other.place → nat_eq rank.place entry.place ≡ false → is_rank other (rank_of discipline entry) ≡ false
    apart place differs =
        elim (cases_Bool (is_rank other (rank_of discipline entry))) [
          | inl same_rank ↦
              let parts = and_parts (nat_eq other.urgency.0 (rank_of discipline entry).urgency.0) (nat_eq other.place entry.place) same_rank in
              absurd (true≢false (sym parts.1 ∙ ap (λ p. nat_eq p entry.place) (sym place) ∙ differs))
          | inr is ↦ is
        ]

-- a place that is put in for a process that does not wait, and taken out again
pub place-restored : (old between new : BTreeMap Who ℕ) (who : Who) (place : ℕ) (entries : List Entry)
    → ((other : Who) → lookup (is_same other) old.entries ≡ place_of other entries) → has_entry_in who entries ≡ false
    → UpdatesBy who_order.cmp-value.it (who_order.cmp-value.it who) old between (Some place)
    → UpdatesBy who_order.cmp-value.it (who_order.cmp-value.it who) between new None
    → (other : Who) → lookup (is_same other) new.entries ≡ place_of other entries
place-restored old between new who place entries found none put taken other =
    place-updated between new who None taken other ∙ by (is_same who other) refl
  where
    absent : (b : Option ℕ) → place_of other entries ≡ b → is_some b ≡ false → b ≡ None
    absent None is none_found = refl
    absent (Some p) is none_found = absurd (true≢false none_found)

    by : (b : Bool) → is_same who other ≡ b → (if b then None else lookup (is_same other) between.entries) ≡ place_of other entries
    by true same =
        let no : is_some (place_of other entries) ≡ false =
        found-is_member other entries ∙ ap (λ w. has_entry_in w entries) (sym (same_is who other same)) ∙ none in
        sym (absent (place_of other entries) refl no)
    by false differs = place-updated old between who (Some place) put other ∙ rw differs (found other)

-- a rank that is put in for a new place, and taken out again
pub rank-restored : (discipline : Discipline) (old between new : BTreeSet Rank) (rank : Rank) (entries : List Entry)
    → ((other : Rank) → list_any (is_rank other) old.keys ≡ has_rank discipline other entries) → has_place rank.place entries ≡ false
    → set.UpdatesBy rank_order.cmp-value.it (rank_order.cmp-value.it rank) old between true
    → set.UpdatesBy rank_order.cmp-value.it (rank_order.cmp-value.it rank) between new false
    → (other : Rank) → list_any (is_rank other) new.keys ≡ has_rank discipline other entries
rank-restored discipline old between new rank entries ranked none put taken other =
    rank-updated between new rank false taken other ∙ by (is_rank rank other) refl
  where
    by : (b : Bool) → is_rank rank other ≡ b → (if b then false else list_any (is_rank other) between.keys) ≡ has_rank discipline other entries
    by true same = sym (unranked discipline rank other entries none same)
    by false differs = rank-updated old between rank true put other ∙ rw differs (ranked other)

-- a set into which an entry was put, and from which it was taken again before its rank was kept
pub put_back-kept : (discipline : Discipline) (entry : Entry) (stored : List (ℕ × Entry)) (places places_put places_after : BTreeMap Who ℕ)
    (ranks ranks_after : List Rank) → IsKept discipline stored places.entries ranks → IsNew entry (values_of stored)
    → UpdatesBy who_order.cmp-value.it (who_order.cmp-value.it entry.who) places places_put (Some entry.place)
    → UpdatesBy who_order.cmp-value.it (who_order.cmp-value.it entry.who) places_put places_after None → ranks_after ≡ ranks
    → IsKept discipline stored places_after.entries ranks_after
put_back-kept discipline entry stored places places_put places_after ranks ranks_after kept new put taken same = record {
  under_places = kept.under_places;
  rising = kept.rising;
  found = place-restored places places_put places_after entry.who entry.place (values_of stored) kept.found new.0 put taken;
  ranked = λ rank. ap (λ list. list_any (is_rank rank) list) same ∙ kept.ranked rank;
  once = kept.once;
}

-- a set into which an entry was put, and from which it was taken again once its rank was kept
pub taken_back-kept : (discipline : Discipline) (entry : Entry) (stored : List (ℕ × Entry)) (places places_put places_after : BTreeMap Who ℕ)
    (ranks ranks_put ranks_after : BTreeSet Rank) → IsKept discipline stored places.entries ranks.keys → IsNew entry (values_of stored)
    → UpdatesBy who_order.cmp-value.it (who_order.cmp-value.it entry.who) places places_put (Some entry.place)
    → UpdatesBy who_order.cmp-value.it (who_order.cmp-value.it entry.who) places_put places_after None
    → set.UpdatesBy rank_order.cmp-value.it (rank_order.cmp-value.it (rank_of discipline entry)) ranks ranks_put true
    → set.UpdatesBy rank_order.cmp-value.it (rank_order.cmp-value.it (rank_of discipline entry)) ranks_put ranks_after false
    → IsKept discipline stored places_after.entries ranks_after.keys
taken_back-kept discipline entry stored places places_put places_after ranks ranks_put ranks_after kept new put taken ranked unranked_again = record {
  under_places = kept.under_places;
  rising = kept.rising;
  found = place-restored places places_put places_after entry.who entry.place (values_of stored) kept.found new.0 put taken;
  ranked = rank-restored discipline ranks ranks_put ranks_after (rank_of discipline entry) (values_of stored) kept.ranked new.1 ranked unranked_again;
  once = kept.once;
}
