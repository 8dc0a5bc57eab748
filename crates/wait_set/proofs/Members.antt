-- Who of a partition waits in a set.
use Rattle.std.proofs.Common.{◌≡◌, ◌<◌, ◌≤◌, ℕ, List, [], ◌∷◌, ◌&&◌, ◌||◌, Bool, true, false, nat_eq, nat_lt, length, cond, refl, sym, ap, ◌∙◌, arith, inl, inr, true≢false}
use Rattle.std.proofs.lemmas.Bool.{cases_Bool, eqb-true, eq-eqb}
use Rattle.std.proofs.lemmas.Bool.Decides.{nat_tests}
use Rattle.std.specs.BTreeMap.{BTreeMap, get, is_at}
use Rattle.std.specs.BTreeMap.Range.{IsLeBy, IsRangeOf}
use Rattle.std.specs.Map.{lookup}
use Rattle.std.specs.Option.{is_some}
use Rattle.std.specs.declared.ops.Bound.TheVariants.{Included, Unbounded}
use Rattle.apex_types.specs.declared.record.Who.{Who}
use Rattle.apex_types.specs.contracts.record.WhoOrd.TheImpl as who_order
use Rattle.apex_machine.specs.declared.state.Entry.{Entry}
use Rattle.apex_machine.specs.Demands.{has_entry_in}
use Rattle.apex_machine.specs.State.{is_same}
use Rattle.apex_machine.specs.Waiting.{without}
use Rattle.wait_set.specs.Kept.{place_of}
use Rattle.wait_set.specs.Sets.{without_one, without_part}
use Rattle.wait_set.proofs.Entries.{found-is_member}
use Rattle.wait_set.proofs.Maps.{lookup-same}
use Rattle.wait_set.proofs.Orders.{pair_above, who_is}
use Rattle.wait_set.proofs.Tests.{neither_first, neither_later}
use Rattle.wait_set.proofs.WaitersOf.{same_is, same_itself, same_swap}

-- the order of processes is by their partition first: a process that is not above another is not of a greater one
pub part_below : (one other : Who) → IsLeBy who_order.cmp-value.it one other → one.part ≤ other.part
part_below one other below =
    let above : nat_lt other.part one.part ≡ false = neither_first _ _ (sym (pair_above one.part other.part other.proc one.proc) ∙ below) in
    grind (arith, nat_tests)

-- the process of number 0 is above no process of its partition
pub least_below : (least who : Who) → least.proc ≡ 0 → who.part ≡ least.part → IsLeBy who_order.cmp-value.it least who
least_below least who zero is = pair_above least.part who.part who.proc least.proc ∙ none
  where
    none : (nat_lt who.part least.part || (nat_eq least.part who.part && nat_lt who.proc least.proc)) ≡ false
    none = grind (arith, nat_tests)

-- if no process of a partition waits, none leaves
pub without-nobody_of : (part : ℕ) (entries : List Entry) → ((who : Who) → who.part ≡ part → has_entry_in who entries ≡ false)
    → without_part part entries ≡ entries
without-nobody_of part [] none = refl
without-nobody_of part (entry ∷ entries) none =
    elim (cases_Bool (nat_eq entry.who.part part)) [
      | inl of ↦ absurd (true≢false (sym (same_itself entry.who) ∙ neither_first _ _ (none entry.who (eqb-true entry.who.part part of))))
      | inr other ↦ rw other (ap (λ rest. entry ∷ rest) (without-nobody_of part entries (λ who is. neither_later _ _ (none who is))))
    ]

-- once one of those who leave has left, the others leave what they leave otherwise
pub without-one_of : (leaves : Who → Bool) (who : Who) (entries : List Entry) → leaves who ≡ true
    → without leaves (without_one who entries) ≡ without leaves entries
without-one_of leaves who [] goes = refl
without-one_of leaves who (entry ∷ entries) goes =
    elim (cases_Bool (is_same entry.who who)) [
      | inl same ↦
          let also : leaves entry.who ≡ true = ap leaves (same_is entry.who who same) ∙ goes in
          rw (same, also) (without-one_of leaves who entries goes)
      | inr differs ↦ rw differs (by (leaves entry.who) refl (without-one_of leaves who entries goes))
    ]
  where
    by : (b : Bool) → leaves entry.who ≡ b → without leaves (without_one who entries) ≡ without leaves entries
        → cond b (without leaves (without_one who entries)) (entry ∷ without leaves (without_one who entries))
        ≡ cond b (without leaves entries) (entry ∷ without leaves entries)
    by true e rest = rest
    by false e rest = ap (λ more. entry ∷ more) rest

-- who leaves makes no set longer
no_longer : (leaves : Who → Bool) (entries : List Entry) → length (without leaves entries) ≤ length entries
no_longer leaves [] = omega arith
no_longer leaves (entry ∷ entries) = by (leaves entry.who) (no_longer leaves entries)
  where
    by : (b : Bool) → length (without leaves entries) ≤ length entries
        → length (cond b (without leaves entries) (entry ∷ without leaves entries)) ≤ length (entry ∷ entries)
    by true rest = omega arith
    by false rest = omega arith

-- a process that has an entry in a set and leaves makes it shorter
pub shorter : (who : Who) (entries : List Entry) → has_entry_in who entries ≡ true → length (without_one who entries) < length entries
shorter who [] is_member = absurd (true≢false (sym is_member))
shorter who (entry ∷ entries) is_member =
    elim (cases_Bool (is_same who entry.who)) [
      | inl same ↦
          let rest : length (without_one who entries) ≤ length entries = no_longer (λ other. is_same other who) entries in
          rw (same_swap entry.who who ∙ same) (omega arith)
      | inr differs ↦
          let rest : length (without_one who entries) < length entries = shorter who entries (rw differs at is_member) in
          rw (same_swap entry.who who ∙ differs) (omega arith)
    ]

-- the map of places from a partition's least process on

-- who is in the map waits
pub placed-is_member : (places : BTreeMap Who ℕ) (entries : List Entry) → ((who : Who) → lookup (is_same who) places.entries ≡ place_of who entries)
    → (who : Who) → is_some (get who_order.cmp-value.it places who) ≡ has_entry_in who entries
placed-is_member places entries found who =
    ap is_some (lookup-same (is_at (who_order.cmp-value.it who)) (is_same who) (who_is who) places.entries ∙ found who) ∙ found-is_member who entries

-- if it is empty, no process of the partition waits
pub nobody_after : (least : Who) (places : BTreeMap Who ℕ) (entries : List Entry) (those_after : List (Who × ℕ)) → least.proc ≡ 0
    → ((who : Who) → lookup (is_same who) places.entries ≡ place_of who entries)
    → IsRangeOf who_order.cmp-value.it (Included least) Unbounded places those_after → those_after ≡ [] → without_part least.part entries ≡ entries
nobody_after least places entries those_after zero found range none =
    without-nobody_of least.part entries (λ who is. sym (placed-is_member places entries found who)
    ∙ ap is_some (range.5 none who (least_below least who zero is, tt)))

-- its first process waits
pub first-is_member : (least who : Who) (place : ℕ) (places : BTreeMap Who ℕ) (entries : List Entry) (those_after rest : List (Who × ℕ))
    → ((who : Who) → lookup (is_same who) places.entries ≡ place_of who entries)
    → IsRangeOf who_order.cmp-value.it (Included least) Unbounded places those_after → those_after ≡ (who, place) ∷ rest → has_entry_in who entries ≡ true
first-is_member least who place places entries those_after rest found range is =
    let first = rw is at range.1 in
    sym (placed-is_member places entries found who) ∙ ap is_some first.1

-- if its first process is of another partition, no process of the partition waits
pub another_after : (least who : Who) (place : ℕ) (places : BTreeMap Who ℕ) (entries : List Entry) (those_after rest : List (Who × ℕ)) → least.proc ≡ 0
    → ((who : Who) → lookup (is_same who) places.entries ≡ place_of who entries)
    → IsRangeOf who_order.cmp-value.it (Included least) Unbounded places those_after → those_after ≡ (who, place) ∷ rest → nat_eq who.part least.part ≡ false
    → without_part least.part entries ≡ entries
another_after least who place places entries those_after rest zero found range is differs =
    without-nobody_of least.part entries absent
  where
    absent : (other : Who) → other.part ≡ least.part → has_entry_in other entries ≡ false
    absent other of =
        elim (cases_Bool (has_entry_in other entries)) [
          | inl is_member ↦
              let from : least.part ≤ who.part = part_below least who (rw is at range.1).0.0 in
              let listed_before_who : IsLeBy who_order.cmp-value.it who other =
              rw is at range.2 other (least_below least other zero of, tt) (placed-is_member places entries found other ∙ is_member) in
              let to : who.part ≤ other.part = part_below who other listed_before_who in
              absurd (true≢false (sym (eq-eqb who.part least.part (omega arith)) ∙ differs))
          | inr none ↦ none
        ]
