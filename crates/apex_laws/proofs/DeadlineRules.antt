-- Which deadline a process gets, and when it is missed, is exactly what the sentences say.
use Rattle.std.proofs.Common.{◌≡◌, ℕ, ◌+◌, ◌*◌, ◌/◌, ◌%◌, ◌<◌, ◌≤◌, Option, Some, None, true, cond, nat_eq, nat_le, refl, sym, ap, ◌∙◌, inl, inr, arith}
use Rattle.std.proofs.Math.Nat.{mul-le-mul_right}
use Rattle.std.proofs.lemmas.Bool.{and_from, and_parts, cases_lt, eq-eqb, eqb-true, le-leb, leb-false, leb-true}
use Rattle.apex_types.specs.declared.limits.TheConstants.{LATEST_DEADLINE}
use Rattle.apex_laws.specs.ProcessLaws.{DeadlineIsTheSentence, MissedIsTheSentence}
use Rattle.apex_laws.proofs.Common.{CallerOperation, HasMissed, IsDeadlineAfter, IsDeadlineFrom, IsEntryDeadline, IsEntryTime, IsFirstRelease, Process, Request, capacity_given, deadline_by, deadline_from, entry_deadline}
use Rattle.apex_laws.proofs.Common.{entry_time, first_release, has_missed, is_missed, is_reached, next_release, some_missed}
use Rattle.apex_laws.proofs.Booleans.{by_test, cannot_hold, impossible}
use Rattle.apex_laws.proofs.ConditionTests.{any_tells}

-- the first release

-- the first release is the least multiple above the time
pub first_release_is : (period now : ℕ) → 0 < period → IsFirstRelease period now (first_release period now)
first_release_is period now above =
    let quotient : period * (now / period) + now % period ≡ now = omega arith in
    let rest : now % period < period = omega arith in
    let product : (now / period + 1) * period ≡ period * (now / period) + period = omega arith in
    record { multiple = (now / period + 1, refl); above = omega arith; least = omega arith }

-- one multiple of the period is a period or more below a later one
multiples : (period a b : ℕ) → a < b → a * period + period ≤ b * period
multiples period a b below =
    let more : (a + 1) * period ≤ b * period = mul-le-mul_right period (omega arith) in
    let product : (a + 1) * period ≡ a * period + period = omega arith in
    omega arith

-- there is one first release
pub one_release : (period now one other : ℕ) → IsFirstRelease period now one → IsFirstRelease period now other → one ≡ other
one_release period now one other first second =
    let a : ℕ = first.multiple.0 in
    let b : ℕ = second.multiple.0 in
    let at : one ≡ a * period = first.multiple.1 in
    let also : other ≡ b * period = second.multiple.1 in
    elim (cases_lt a b) [
      | inl below ↦ (let apart : a * period + period ≤ b * period = multiples period a b below in
          let now_below : now < one = first.above in
          let not_above : other ≤ now + period = second.least in
          absurd (omega arith))
      | inr above ↦ elim (cases_lt b a) [
        | inl below ↦ (let apart : b * period + period ≤ a * period = multiples period b a below in
            let now_below : now < other = second.above in
            let not_above : one ≤ now + period = first.least in
            absurd (omega arith))
        | inr over ↦ (let same : a ≡ b = omega arith in at ∙ ap (λ count. count * period) same ∙ sym also)
      ]
    ]

-- the deadline that a time capacity or a budget sets

deadline_says : (time : ℕ) (span deadline : Option ℕ) → deadline ≡ deadline_from time span → IsDeadlineFrom time span deadline
deadline_says time None deadline is = IsDeadlineFrom.no_span refl is
deadline_says time (Some ticks) deadline is =
    by_test (λ (one : Option ℕ). deadline ≡ one → IsDeadlineFrom time (Some ticks) deadline) (nat_le (time + ticks) LATEST_DEADLINE) (Some (time + ticks)) None
    (λ fits is. IsDeadlineFrom.ends ticks refl (leb-true (time + ticks) LATEST_DEADLINE fits) is)
    (λ late is. IsDeadlineFrom.too_late ticks refl (leb-false (time + ticks) LATEST_DEADLINE late) is) is

pub deadline_back : (time : ℕ) (span deadline : Option ℕ) → IsDeadlineFrom time span deadline → deadline ≡ deadline_from time span
deadline_back time span deadline (IsDeadlineFrom.no_span none is) = is ∙ sym (ap (deadline_from time) none)
deadline_back time span deadline (IsDeadlineFrom.ends ticks some fits is) =
    is ∙ sym (ap (deadline_from time) some ∙ ap (λ test. cond test (Some (time + ticks)) None) (le-leb (time + ticks) LATEST_DEADLINE fits))
deadline_back time span deadline (IsDeadlineFrom.too_late ticks some late is) =
    is ∙ sym (ap (deadline_from time) some ∙ ap (λ test. cond test (Some (time + ticks)) None)
    (cannot_hold (nat_le (time + ticks) LATEST_DEADLINE) (λ fits. let below = leb-true (time + ticks) LATEST_DEADLINE fits in omega (arith, below, late))))

pub deadline_is_the_sentence : DeadlineIsTheSentence
deadline_is_the_sentence time span deadline = (deadline_says time span deadline, deadline_back time span deadline)

-- the deadline of a process that enters NORMAL

entry_time_says : (period now delay : ℕ) (own : Option ℕ) → 0 < period → IsEntryTime period now delay own (entry_time period now delay own)
entry_time_says period now delay None above = IsEntryTime.aperiodic refl refl
entry_time_says period now delay (Some own) above = IsEntryTime.periodic own (first_release period now) refl (first_release_is period now above) refl

entry_time_is : (period now delay : ℕ) (own : Option ℕ) (time : ℕ) → 0 < period → IsEntryTime period now delay own time → time ≡ entry_time period now delay own
entry_time_is period now delay own time above (IsEntryTime.aperiodic none is) = is ∙ sym (ap (entry_time period now delay) none)
entry_time_is period now delay own time above (IsEntryTime.periodic of first some is_first is) =
    is ∙ ap (λ one. one + delay) (one_release period now first (first_release period now) is_first (first_release_is period now above)) ∙ sym (ap (entry_time period now delay) some)

pub entry_deadline_says : (period now delay : ℕ) (process : Process) → 0 < period → IsEntryDeadline period now delay process (entry_deadline period now delay process)
entry_deadline_says period now delay process above = record {
  time = entry_time period now delay process.period;
  from = entry_time_says period now delay process.period above;
  set = deadline_says (entry_time period now delay process.period) process.time_capacity _ refl;
}

pub entry_deadline_is : (period now delay : ℕ) (process : Process) (deadline : Option ℕ) → 0 < period → IsEntryDeadline period now delay process deadline
    → deadline ≡ entry_deadline period now delay process
entry_deadline_is period now delay process deadline above is =
    deadline_back is.time process.time_capacity deadline is.set
    ∙ ap (λ time. deadline_from time process.time_capacity) (entry_time_is period now delay process.period is.time above is.from)

-- the deadline of a caller

pub after_says : (asked : Request) (now : ℕ) (process : Process) → IsDeadlineAfter asked now process (deadline_by asked now process)
after_says (Request.Caller CallerOperation.PeriodicWait) now process = deadline_says (next_release process) process.time_capacity _ refl
after_says (Request.Caller (CallerOperation.Replenish budget)) now process = deadline_says now (capacity_given budget) _ refl
after_says _ now process = refl

pub after_is : (asked : Request) (now : ℕ) (process : Process) (deadline : Option ℕ) → IsDeadlineAfter asked now process deadline → deadline ≡ deadline_by asked now process
after_is (Request.Caller CallerOperation.PeriodicWait) now process deadline is = deadline_back (next_release process) process.time_capacity deadline is
after_is (Request.Caller (CallerOperation.Replenish budget)) now process deadline is = deadline_back now (capacity_given budget) deadline is
after_is _ now process deadline is = is

-- missed deadlines

reached_is : (now : ℕ) (deadline : Option ℕ) → is_reached now deadline ≡ true → (time : ℕ) × (deadline ≡ Some time) × (time ≤ now)
reached_is now None is = impossible is
reached_is now (Some time) is = (time, refl, leb-true time now is)

missed_says : (core now : ℕ) (process : Process) → is_missed core now (Some process) ≡ true → HasMissed core now process
missed_says core now process missed =
    let parts = and_parts (nat_eq process.affinity core) (is_reached now process.deadline) missed in
    let reached = reached_is now process.deadline parts.1 in
    record { affinity = eqb-true process.affinity core parts.0; deadline = reached.0; set = reached.1; reached = reached.2 }

missed_back : (core now : ℕ) (process : Process) → HasMissed core now process → is_missed core now (Some process) ≡ true
missed_back core now process is =
    and_from (nat_eq process.affinity core) (is_reached now process.deadline) (eq-eqb process.affinity core is.affinity)
    (ap (is_reached now) is.set ∙ le-leb is.deadline now is.reached)

-- a process that has missed its deadline is there
pub missed_exists : (core now : ℕ) (found : Option Process) → is_missed core now found ≡ true → (process : Process) × (found ≡ Some process) × HasMissed core now process
missed_exists core now None missed = impossible missed
missed_exists core now (Some process) missed = (process, refl, missed_says core now process missed)

pub missed_is_the_sentence : MissedIsTheSentence
missed_is_the_sentence = (
  λ core now process. (missed_says core now process, missed_back core now process),
  λ core now table. any_tells (λ entry. has_missed core now entry.1) (λ entry. HasMissed core now entry.1) (λ entry. (missed_says core now entry.1, missed_back core now entry.1))
      (some_missed core now) refl (λ entry entries. refl) table,
)
