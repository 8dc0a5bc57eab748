-- Those who are named and those who fall due.
use Rattle.std.proofs.Common.{◌≡◌, ℕ, Bool, true, false, inl, inr, List, [], ◌∷◌, ◌||◌, not, nat_eq, refl, arith}
use Rattle.std.proofs.lemmas.Bool.{and_from, and_parts, or_cases, or_left, or_right}
use Rattle.std.proofs.lemmas.Bool.Decides.{nat_tests}
use Rattle.std.specs.List.{list_all}
use Rattle.apex_types.specs.declared.record.Who.{Who}
use Rattle.apex_machine.specs.State.{Table, is_same, item_at}
use Rattle.apex_machine.specs.DueTimes.{falls_due}
use Rattle.scheduling.specs.Due.{NamedFallDue}

abbrev pub process_of : ℕ → ℕ → Who
process_of partition number = record { part = partition; proc = number }

-- whether one who is named is of another partition, or falls due
abbrev pub is_rightly_named : ℕ → ℕ → ℕ → Table → Who → Bool
is_rightly_named partition core time table who = not (nat_eq who.part partition) || falls_due core time (item_at table who.proc)

pub named_fall_due : (partition core time : ℕ) (table : Table) (woken : List Who)
    → list_all (is_rightly_named partition core time table) woken ≡ true → NamedFallDue partition core time table woken
named_fall_due partition core time table [] all number named = cc
named_fall_due partition core time table (who ∷ others) all number named =
    let parts = and_parts (is_rightly_named partition core time table who) _ all in
    elim (or_cases (is_same (process_of partition number) who) _ named) [
      | inl same ↦ here parts.0 same
      | inr rest ↦ named_fall_due partition core time table others parts.1 number rest
    ]
  where
    here : is_rightly_named partition core time table who ≡ true → is_same (process_of partition number) who ≡ true → falls_due core time (item_at table number) ≡ true
    here rightly same =
        let equal : number ≡ who.proc = grind (arith, nat_tests) in
        let own : nat_eq who.part partition ≡ true = grind (arith, nat_tests) in
        rw equal (rw own at rightly)

pub all_named_fall_due : (partition core time : ℕ) (table : Table) (woken : List Who)
    → NamedFallDue partition core time table woken → list_all (is_rightly_named partition core time table) woken ≡ true
all_named_fall_due partition core time table [] each = refl
all_named_fall_due partition core time table (who ∷ others) each =
    and_from (is_rightly_named partition core time table who) _ (here (nat_eq who.part partition) refl)
    (all_named_fall_due partition core time table others (λ number named. each number (or_right (is_same (process_of partition number) who) _ named)))
  where
    here : (b : Bool) → nat_eq who.part partition ≡ b → not b || falls_due core time (item_at table who.proc) ≡ true
    here true own = each who.proc (or_left (is_same (process_of partition who.proc) who) _ (grind (arith, nat_tests)))
    here false other = refl
