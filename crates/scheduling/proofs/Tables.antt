-- Changes of one process, and of each, in a table.
use Rattle.std.proofs.Common.{◌≡◌, ℕ, ◌<◌, ◌≤◌, ◌^◌, Bool, true, false, nat_eq, [], ◌∷◌, ◌++◌, Some, None, refl, sym, ap, ◌∙◌, arith, cond}
use Rattle.std.proofs.lemmas.Bool.Decides.{nat_tests}
use Rattle.std.specs.List.{AllByRecursion, IsDistinct}
use Rattle.std.specs.Map.{keys_of, lookup, set_value}
use Rattle.apex_machine.specs.declared.state.Process.{Process}
use Rattle.apex_machine.specs.declared.state.Mode.{Mode}
use Rattle.apex_machine.specs.State.{Table, each_item, item_at}
use Rattle.scheduling.specs.Changes.{only, with_each}
use Rattle.scheduling.specs.Numbers.{NumbersFit}
use Rattle.scheduling.specs.Processes.{Processes, processes_in}

-- what a look-up finds is the process at the number
pub lookup-item_at : (number : ℕ) (entries : Table) → lookup (nat_eq number) entries ≡ item_at entries number
lookup-item_at number [] = refl
lookup-item_at number (entry ∷ entries) = ap (λ rest. cond (nat_eq number entry.0) (Some entry.1) rest) (lookup-item_at number entries)

-- a pointwise equal change gives an equal table
pub each_item-congr : (f g : ℕ → Process → Process) → ((number : ℕ) (process : Process) → f number process ≡ g number process)
    → (entries : Table) → each_item f entries ≡ each_item g entries
each_item-congr f g same [] = refl
each_item-congr f g same (entry ∷ entries) =
    rw (same entry.0 entry.1, each_item-congr f g same entries)

-- one change after another is the change by both
pub each_item-twice : (f g : ℕ → Process → Process) (entries : Table)
    → each_item g (each_item f entries) ≡ each_item (λ number process. g number (f number process)) entries
each_item-twice f g [] = refl
each_item-twice f g (entry ∷ entries) = ap (λ rest. (entry.0, g entry.0 (f entry.0 entry.1)) ∷ rest) (each_item-twice f g entries)

-- no change leaves the table
pub each_item-same : (f : ℕ → Process → Process) → ((number : ℕ) (process : Process) → f number process ≡ process)
    → (entries : Table) → each_item f entries ≡ entries
each_item-same f same [] = refl
each_item-same f same (entry ∷ entries) = rw (same entry.0 entry.1, each_item-same f same entries)

-- a change of each of two tables
pub each_item-append : (f : ℕ → Process → Process) (a b : Table) → each_item f (a ++ b) ≡ each_item f a ++ each_item f b
each_item-append f [] b = refl
each_item-append f (entry ∷ a) b = ap (λ rest. (entry.0, f entry.0 entry.1) ∷ rest) (each_item-append f a b)

pub nat_eq-swap : (a b : ℕ) → nat_eq a b ≡ nat_eq b a
nat_eq-swap a b = grind (arith, nat_tests)

-- a change of one number leaves a table that has not the number
pub only-absent : (number : ℕ) (change : Process → Process) (entries : Table)
    → item_at entries number ≡ None → each_item (only number change) entries ≡ entries
only-absent number change [] none = refl
only-absent number change (entry ∷ entries) none = by (nat_eq number entry.0) refl (only-absent number change entries)
  where
    by : (b : Bool) → nat_eq number entry.0 ≡ b → (item_at entries number ≡ None → each_item (only number change) entries ≡ entries)
        → each_item (only number change) (entry ∷ entries) ≡ entry ∷ entries
    by true e others = let found = rw e at none in cc
    by false e others = rw (nat_eq-swap entry.0 number, e, others (rw e at none)) refl

-- a number that no key of the rest equals is none of the rest's
pub absent_from : (number : ℕ) (entries : Table) → AllByRecursion (λ key. nat_eq number key ≡ false) (keys_of entries) → item_at entries number ≡ None
absent_from number [] apart = refl
absent_from number (entry ∷ entries) apart = rw (apart.0) (absent_from number entries apart.1)

-- what is written at a number that has a process is a change of this number alone
pub only-written : (number : ℕ) (change : Process → Process) (old written : Process) (entries : Table)
    → IsDistinct nat_eq (keys_of entries) → item_at entries number ≡ Some old → written ≡ change old
    → set_value (nat_eq number) entries written ≡ each_item (only number change) entries
unfolding IsDistinct
only-written number change old written [] distinct found is = refl
only-written number change old written (entry ∷ entries) distinct found is =
    by (nat_eq number entry.0) refl (λ rest. only-written number change old written entries distinct.1 rest is)
  where
    by : (b : Bool) → nat_eq number entry.0 ≡ b
        → (item_at entries number ≡ Some old → set_value (nat_eq number) entries written ≡ each_item (only number change) entries)
        → set_value (nat_eq number) (entry ∷ entries) written ≡ each_item (only number change) (entry ∷ entries)
    by true e others =
        let same : number ≡ entry.0 = grind (arith, nat_tests) in
        let found_here = rw e at found in
        let old_is : old ≡ entry.1 = cc in
        rw (nat_eq-swap entry.0 number, e, only-absent number change entries (rw same (absent_from entry.0 entries distinct.0)), is, old_is) refl
    by false e others = rw (nat_eq-swap entry.0 number, e, others (rw e at found)) refl

-- numbers that fit stay so

pub NumbersFit-push : (entries : Table) (number : ℕ) (process : Process) → NumbersFit entries → number < 2 ^ 32 → NumbersFit (entries ++ (number, process) ∷ [])
NumbersFit-push [] number process fit bound = (bound, tt)
NumbersFit-push (entry ∷ entries) number process fit bound = (fit.0, NumbersFit-push entries number process fit.1 bound)

-- a number past 32 bits has no process
pub absent-above : (entries : Table) (number : ℕ) → NumbersFit entries → 2 ^ 32 ≤ number → item_at entries number ≡ None
absent-above [] number fit above = refl
absent-above (entry ∷ entries) number fit above =
    let apart : nat_eq number entry.0 ≡ false = grind (arith, nat_tests) in
    rw apart (absent-above entries number fit.1 above)

-- with a mode

-- the processes with another table
abbrev pub with_table : Processes → Table → Processes
with_table processes table = record processes { table = table }

-- a table that has this process written at its number
pub processes-written : (mode : Mode) (number : ℕ) (change : Process → Process) (old written : Process) (entries next : Table)
    → IsDistinct nat_eq (keys_of entries) → Some old ≡ lookup (nat_eq number) entries → written ≡ change old
    → next ≡ set_value (nat_eq number) entries written
    → processes_in mode next ≡ with_each (only number change) (processes_in mode entries)
processes-written mode number change old written entries next distinct found is written_so =
    ap (processes_in mode) (written_so ∙ only-written number change old written entries distinct (sym (found ∙ lookup-item_at number entries)) is)

-- a table that has no process of the number
pub processes-kept : (mode : Mode) (number : ℕ) (change : Process → Process) (entries next : Table)
    → None ≡ lookup (nat_eq number) entries → next ≡ entries
    → processes_in mode next ≡ with_each (only number change) (processes_in mode entries)
processes-kept mode number change entries next none kept =
    ap (processes_in mode) (kept ∙ sym (only-absent number change entries (sym (none ∙ lookup-item_at number entries))))
