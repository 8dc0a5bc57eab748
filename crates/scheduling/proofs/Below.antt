-- A change made to one process after another.
use Rattle.std.proofs.Common.{◌≡◌, ℕ, zero, suc, true, false, nat_eq, ◌+◌, add-one, [], ◌∷◌, Some, length, slice_get, refl, ap, sym, subst, ◌≤◌, ◌∙◌, arith}
use Rattle.std.proofs.lemmas.Bool.Decides.{nat_tests}
use Rattle.std.specs.List.{AllByRecursion, IsDistinct}
use Rattle.std.specs.Map.{keys_of}
use Rattle.apex_machine.specs.declared.state.Process.{Process}
use Rattle.apex_machine.specs.declared.state.Mode.TheVariants as mode
use Rattle.apex_machine.specs.State.{Table, each_item}
use Rattle.scheduling.specs.Changes.{only, with_each}
use Rattle.scheduling.specs.Processes.{Processes, processes_in}
use Rattle.scheduling.proofs.Tables.{absent_from, only-absent}

-- the table with the processes before a place changed
abbrev pub each_below : (ℕ → Process → Process) → ℕ → Table → Table
each_below change place [] = []
each_below change zero (entry ∷ entries) = entry ∷ entries
each_below change (suc place) (entry ∷ entries) = (entry.0, change entry.0 entry.1) ∷ each_below change place entries

pub each_below-none : (change : ℕ → Process → Process) (table : Table) → each_below change 0 table ≡ table
each_below-none change [] = refl
each_below-none change (entry ∷ entries) = refl

each_below-all : (change : ℕ → Process → Process) (place : ℕ) (table : Table) → length table ≤ place
    → each_below change place table ≡ each_item change table
each_below-all change place [] past = refl
each_below-all change zero (entry ∷ entries) past = absurd (omega arith)
each_below-all change (suc place) (entry ∷ entries) past =
    let past_rest : length entries ≤ place = omega arith in
    ap (λ rest. (entry.0, change entry.0 entry.1) ∷ rest) (each_below-all change place entries past_rest)

pub length-each_below : (change : ℕ → Process → Process) (place : ℕ) (table : Table) → length (each_below change place table) ≡ length table
length-each_below change place [] = refl
length-each_below change zero (entry ∷ entries) = refl
length-each_below change (suc place) (entry ∷ entries) = ap suc (length-each_below change place entries)

-- the process at the place has a number of its own
apart_at : (number place : ℕ) (change : ℕ → Process → Process) (entry : ℕ × Process) (table : Table) → AllByRecursion (λ key. nat_eq number key ≡ false) (keys_of table)
    → slice_get (each_below change place table) place ≡ Some entry → nat_eq number entry.0 ≡ false
apart_at number place change entry [] apart found = cc
apart_at number zero change entry (first ∷ entries) apart found = let same : first ≡ entry = cc in rw (← same) apart.0
apart_at number (suc place) change entry (first ∷ entries) apart found = apart_at number place change entry entries apart.1 found

each_below-next : (change : ℕ → Process → Process) (place : ℕ) (entry : ℕ × Process) (table : Table) → IsDistinct nat_eq (keys_of table)
    → slice_get (each_below change place table) place ≡ Some entry
    → each_item (only entry.0 (change entry.0)) (each_below change place table) ≡ each_below change (suc place) table
unfolding IsDistinct
each_below-next change place entry [] distinct found = refl
each_below-next change zero entry (first ∷ entries) distinct found =
    let same : first ≡ entry = cc in
    let here : nat_eq first.0 first.0 ≡ true = grind (arith, nat_tests) in
    let others : each_item (only first.0 (change first.0)) entries ≡ entries = only-absent first.0 (change first.0) entries (absent_from first.0 entries distinct.0) in
    subst (λ (one : ℕ × Process). each_item (only one.0 (change one.0)) (first ∷ entries) ≡ (first.0, change first.0 first.1) ∷ each_below change 0 entries) same
    (rw here (ap (λ rest. (first.0, change first.0 first.1) ∷ rest) (others ∙ sym (each_below-none change entries))))
each_below-next change (suc place) entry (first ∷ entries) distinct found =
    rw (apart_at first.0 place change entry entries distinct.0 found)
    (ap (λ rest. (first.0, change first.0 first.1) ∷ rest) (each_below-next change place entry entries distinct.1 found))

-- with the process at the place changed by its number, those before the next place are changed
pub each_below-only : (change : ℕ → Process → Process) (place : ℕ) (table entries : Table) (entry : ℕ × Process) → IsDistinct nat_eq (keys_of table)
    → entries ≡ each_below change place table → slice_get entries place ≡ Some entry
    → each_item (only entry.0 (change entry.0)) entries ≡ each_below change (place + 1) table
each_below-only change place table entries entry distinct so_far found =
    rw (add-one place, so_far) (each_below-next change place entry table distinct (rw so_far at found))

-- past the last place the mode is NORMAL, with all changed
pub all_entered : (change : ℕ → Process → Process) (place : ℕ) (old new : Processes) → new.mode ≡ mode.Normal
    → new.table ≡ each_below change place old.table → length old.table ≤ place
    → new ≡ record old { mode = mode.Normal; table = each_item change old.table }
all_entered change place old new is_normal so_far past =
    let all = so_far ∙ each_below-all change place old.table past in
    λ i. processes_in (is_normal i) (all i)

-- past the last place all are changed, and the mode is as it was
pub all_changed : (change : ℕ → Process → Process) (place : ℕ) (old new : Processes) → new.mode ≡ old.mode
    → new.table ≡ each_below change place old.table → length old.table ≤ place → new ≡ with_each change old
all_changed change place old new kept so_far past =
    let all = so_far ∙ each_below-all change place old.table past in
    λ i. processes_in (kept i) (all i)
