-- Processes by their partition and number.
use Rattle.std.proofs.Common.{◌≡◌, ℕ, List, [], ◌∷◌, true, false, nat_eq, Option, Some, None, refl, sym, ap, ◌∙◌, true≢false}
use Rattle.std.proofs.lemmas.Bool.{and_from, and_parts, eqb-true, eq-eqb}
use Rattle.apex_laws.proofs.Common.{HasNoneDue, Outcome, Process, Who, due_of, is_named, is_same, names_one_of}
use Rattle.apex_laws.proofs.Booleans.{cannot_hold, either_way, first_holds, is_itself, later_holds, neither_first, neither_later, other_holds}

-- one partition and one number name one process
pub same_who : (one other : Who) → one.part ≡ other.part → one.proc ≡ other.proc → one ≡ other
same_who one other part proc = λ i. record { part = part i; proc = proc i }

-- the test says so
pub same_is : (one other : Who) → is_same one other ≡ true → one ≡ other
same_is one other same =
    let parts = and_parts (nat_eq one.part other.part) (nat_eq one.proc other.proc) same in
    same_who one other (eqb-true one.part other.part parts.0) (eqb-true one.proc other.proc parts.1)

-- a process is the same as itself
pub same_itself : (who : Who) → is_same who who ≡ true
same_itself who = and_from _ _ (is_itself who.part) (is_itself who.proc)

-- processes of two partitions are two
pub other_partition : (one other : Who) → nat_eq other.part one.part ≡ false → is_same one other ≡ false
other_partition one other apart =
    cannot_hold (is_same one other) (λ same. true≢false (sym (eq-eqb other.part one.part (ap (λ who. who.part) (sym (same_is one other same)))) ∙ apart))

-- a list that names no process of a partition does not name its processes
pub not_named : (who : Who) (others : List Who) → names_one_of who.part others ≡ false → is_named who others ≡ false
not_named who [] none = refl
not_named who (other ∷ others) none =
    rw (other_partition who other (neither_first _ _ none)) (not_named who others (neither_later _ _ none))

-- a list that names one of a partition's processes names some process of it
pub some_named : (number : ℕ) (others : List Who) → names_one_of number others ≡ true
    → (who : Who) × (is_named who others ≡ true) × (who.part ≡ number)
some_named number [] names = absurd (true≢false (sym names))
some_named number (other ∷ others) names =
    either_way (nat_eq other.part number) (λ here. (other, first_holds _ _ (same_itself other), eqb-true other.part number here))
    (λ elsewhere. (let rest = some_named number others (other_holds _ _ names elsewhere) in
    (rest.0, later_holds (is_same rest.0 other) _ rest.1, rest.2)))

-- if an outcome is due to a process, the process exists
pub due_exists : (found : Option Process) (outcome : Outcome) → due_of found ≡ Some outcome → (old : Process) × (found ≡ Some old)
due_exists None outcome due = cc
due_exists (Some process) outcome due = (process, refl)

-- so it does if none is due to it
pub free_exists : (found : Option Process) → HasNoneDue found → (old : Process) × (found ≡ Some old)
free_exists None free = absurd free
free_exists (Some process) free = (process, refl)
