-- Deadlines, in sentences: which deadline a process gets, and when it is missed.
use Rattle.std.specs.Prelude.{◌≡◌, ◌⊎◌, ℕ, ◌+◌, ◌<◌, ◌≤◌, ◌*◌, ℤ, pos, negsuc, ◌+ℤ◌, ◌<ℤ◌, Option, Some, None}
use Rattle.apex_types.specs.declared.limits.TheConstants.{LATEST_DEADLINE}
use Rattle.apex_types.specs.declared.operation.{CallerOperation.CallerOperation}
use Rattle.apex_types.specs.declared.request.Request.{Request}
use Rattle.apex_types.specs.declared.request.Request.TheVariants as request
use Rattle.apex_machine.specs.declared.state.Process.{Process}
use Rattle.apex_machine.specs.Arguments.{capacity_given}
use Rattle.apex_machine.specs.DueTimes.{next_release}

-- the first release after a time: the least multiple of the partition's period above it
pub record IsFirstRelease (period now time : ℕ) : Type 0 where
  pub multiple : (count : ℕ) × (time ≡ count * period)
  pub above : now < time
  pub least : time ≤ now + period

-- the deadline that a time capacity or a budget sets, if it counts from a time: its end, unless that is later than a status can report;
-- without a capacity or a budget there is none
pub data IsDeadlineFrom (time : ℕ) (span deadline : Option ℕ) : Type 0 where
  no_span : span ≡ None → deadline ≡ None → IsDeadlineFrom time span deadline
  ends : (ticks : ℕ) → span ≡ Some ticks → time + ticks ≤ LATEST_DEADLINE → deadline ≡ Some (time + ticks) → IsDeadlineFrom time span deadline
  too_late : (ticks : ℕ) → span ≡ Some ticks → LATEST_DEADLINE < time + ticks → deadline ≡ None → IsDeadlineFrom time span deadline

-- START, DELAYED_START: the time from which the time capacity of a process counts that enters NORMAL with a delay: for an aperiodic one the end
-- of the delay, for a periodic one its first release, which the delay puts off
pub data IsEntryTime (partition_period now delay : ℕ) (period : Option ℕ) (time : ℕ) : Type 0 where
  aperiodic : period ≡ None → time ≡ now + delay → IsEntryTime partition_period now delay period time
  periodic : (own first : ℕ) → period ≡ Some own → IsFirstRelease partition_period now first → time ≡ first + delay → IsEntryTime partition_period now delay period time

-- a process that enters NORMAL with a delay gets this deadline
pub record IsEntryDeadline (partition_period now delay : ℕ) (process : Process) (deadline : Option ℕ) : Type 0 where
  pub time : ℕ
  pub from : IsEntryTime partition_period now delay process.period time
  pub set : IsDeadlineFrom time process.time_capacity deadline

-- the deadline of a caller whose call waits or answers NO_ERROR: PERIODIC_WAIT sets the one that the time capacity gives from the next release
-- on, REPLENISH the one that the budget gives from now on; any other service leaves it
abbrev pub IsDeadlineAfter : Request → ℕ → Process → Option ℕ → Type 0
IsDeadlineAfter (request.Caller CallerOperation.PeriodicWait) now process deadline = IsDeadlineFrom (next_release process) process.time_capacity deadline
IsDeadlineAfter (request.Caller (CallerOperation.Replenish budget)) now process deadline = IsDeadlineFrom now (capacity_given budget) deadline
IsDeadlineAfter _ now process deadline = deadline ≡ process.deadline

-- a budget that counts from this time ends after a release: it is -1, and does not end, or its end is later
abbrev pub EndsAfter : ℕ → ℤ → ℕ → Type 0
EndsAfter now budget release = (budget ≡ negsuc 0) ⊎ (pos release <ℤ (pos now +ℤ budget))

-- a process has missed its deadline on a core at a time: it runs on the core, and the time has reached its deadline
pub record HasMissed (core now : ℕ) (process : Process) : Type 0 where
  pub affinity : process.affinity ≡ core
  pub deadline : ℕ
  pub set : process.deadline ≡ Some deadline
  pub reached : deadline ≤ now
