-- The ranks of ready processes and the due times of processes that wait, and their orders.
use Rattle.std.proofs.Common.{arith}
use Rattle.std.proofs.lemmas.Bool.Decides.{nat_tests}
use Rattle.std.specs.Prelude.{◌≡◌, ℕ, Option, Some, None, Bool, true, false, not, nat_eq, nat_lt, ◌&&◌, ◌||◌, if◌then◌else◌}
use Rattle.apex_machine.specs.declared.state.Process.{Process}
use Rattle.apex_machine.specs.declared.state.Wait.{Wait}
use Rattle.apex_machine.specs.declared.state.Wait.TheVariants as wait
use Rattle.apex_machine.specs.Choice.{waits_for_nothing}
use Rattle.scheduling.specs.Orders.{IsStrictOrder}
use Rattle.scheduling.specs.declared.order.DueTime.{DueTime}
use Rattle.scheduling.specs.declared.order.Rank.{Rank}

-- whether a process is ready on its own core
abbrev pub is_ready_there : Process → Bool
is_ready_there process = process.alive && (not process.faulted && (not process.suspended && waits_for_nothing process.wait))

-- the rank of a process that is ready
abbrev pub rank_of : ℕ → Process → Option Rank
rank_of number process =
    if is_ready_there process
    then Some (record { core = process.affinity; priority = process.current_priority; position = process.ready_position; number = number })
    else None

-- of two ranks of one core, the one with the greater priority goes first, then the one with the earlier position, then the one with the
-- smaller number
abbrev pub before_there : Rank → Rank → Bool
before_there a b =
    nat_lt b.priority a.priority
    || (nat_eq a.priority b.priority && (nat_lt a.position b.position || (nat_eq a.position b.position && nat_lt a.number b.number)))

-- the ranks of one core are together, after those of the cores before it
abbrev pub rank_before : Rank → Rank → Bool
rank_before a b = nat_lt a.core b.core || (nat_eq a.core b.core && before_there a b)

-- when a wait is over, if time ends it
abbrev pub time_due : Wait → Option ℕ
time_due (wait.FirstRelease due) = Some due
time_due (wait.Delay due) = Some due
time_due (wait.Until due) = Some due
time_due (wait.PeriodicRelease due) = Some due
time_due (wait.Suspended due) = due
time_due (wait.At set due) = due
time_due _ = None

-- the due time of this process, if its wait has one
abbrev pub due_at : ℕ → ℕ → Option ℕ → Option DueTime
due_at core number None = None
due_at core number (Some time) = Some (record { core = core; time = time; number = number })

-- the due time of a process, if it has one
abbrev pub due_time_of : ℕ → Process → Option DueTime
due_time_of number process = due_at process.affinity number (time_due process.wait)

-- the deadline of a process, if it has one, as a due time
abbrev pub deadline_time_of : ℕ → Process → Option DueTime
deadline_time_of number process = due_at process.affinity number process.deadline

-- the due times of one core are together; of two of them, the earlier goes first, then the one with the smaller number
abbrev pub due_before : DueTime → DueTime → Bool
due_before a b =
    nat_lt a.core b.core
    || (nat_eq a.core b.core && (nat_lt a.time b.time || (nat_eq a.time b.time && nat_lt a.number b.number)))

-- both are strict orders

rank_one_way : (a b : Rank) → rank_before a b ≡ true → rank_before b a ≡ false
rank_one_way a b h = grind (arith, nat_tests)

across-there : (a b c : Rank) → before_there a c ≡ true → before_there a b ≡ false → before_there b c ≡ true
across-there a b c h k = grind (arith, nat_tests)

across-core : (a b c : ℕ) (p q r : Bool) → (p ≡ true → q ≡ false → r ≡ true) → nat_lt a c || (nat_eq a c && p) ≡ true
    → nat_lt a b || (nat_eq a b && q) ≡ false → nat_lt b c || (nat_eq b c && r) ≡ true
across-core a b c p q r there h k = grind (arith, nat_tests)

rank_across : (a b c : Rank) → rank_before a c ≡ true → rank_before a b ≡ false → rank_before b c ≡ true
rank_across a b c h k = across-core a.core b.core c.core (before_there a c) (before_there a b) (before_there b c) (across-there a b c) h k

rank_apart : (a b : Rank) → rank_before a b ≡ false → rank_before b a ≡ false → a ≡ b
rank_apart a b h k =
    let core : a.core ≡ b.core = grind (arith, nat_tests) in
    let priority : a.priority ≡ b.priority = grind (arith, nat_tests) in
    let position : a.position ≡ b.position = grind (arith, nat_tests) in
    let number : a.number ≡ b.number = grind (arith, nat_tests) in
    λ i. record { core = core i; priority = priority i; position = position i; number = number i }

due_one_way : (a b : DueTime) → due_before a b ≡ true → due_before b a ≡ false
due_one_way a b h = grind (arith, nat_tests)

due_across : (a b c : DueTime) → due_before a c ≡ true → due_before a b ≡ false → due_before b c ≡ true
due_across a b c h k = grind (arith, nat_tests)

due_apart : (a b : DueTime) → due_before a b ≡ false → due_before b a ≡ false → a ≡ b
due_apart a b h k =
    let core : a.core ≡ b.core = grind (arith, nat_tests) in
    let time : a.time ≡ b.time = grind (arith, nat_tests) in
    let number : a.number ≡ b.number = grind (arith, nat_tests) in
    λ i. record { core = core i; time = time i; number = number i }

pub rank_laws : IsStrictOrder rank_before
rank_laws = record { one_way = rank_one_way; across = rank_across; apart = rank_apart }

pub due_laws : IsStrictOrder due_before
due_laws = record { one_way = due_one_way; across = due_across; apart = due_apart }
