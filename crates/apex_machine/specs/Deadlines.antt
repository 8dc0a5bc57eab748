-- Deadlines: the time by which a process must have done its work, and whether its core has reached that time.
use Rattle.std.specs.Prelude.{ℕ, zero, suc, ◌+◌, [], ◌∷◌, Option, Some, None, Bool, true, false, ℤ, pos, negsuc, nat_eq, nat_le, nat_lt, ◌&&◌, ◌||◌, if◌then◌else◌}
use Rattle.apex_types.specs.declared.limits.TheConstants.{LATEST_DEADLINE}
use Rattle.apex_types.specs.declared.operation.{CallerOperation.CallerOperation}
use Rattle.apex_types.specs.declared.request.Request.{Request}
use Rattle.apex_types.specs.declared.request.Request.TheVariants as request
use Rattle.apex_machine.specs.declared.state.Process.{Process}
use Rattle.apex_machine.specs.Arguments.{capacity_given}
use Rattle.apex_machine.specs.DueTimes.{first_release, next_release}
use Rattle.apex_machine.specs.State.{Table}

-- setting a deadline

-- the deadline that a time capacity or a budget sets, if it counts from this time; without one there is none, and neither is there one that
-- would be later than a status can report
abbrev pub deadline_from : ℕ → Option ℕ → Option ℕ
deadline_from time None = None
deadline_from time (Some span) = if nat_le (time + span) LATEST_DEADLINE then Some (time + span) else None

-- the time from which the time capacity of a process counts that is started with a delay in NORMAL: the end of the delay of an aperiodic
-- one, the first release of a periodic one, which the delay puts off
abbrev pub entry_time : ℕ → ℕ → ℕ → Option ℕ → ℕ
entry_time partition_period now delay None = now + delay
entry_time partition_period now delay (Some period) = first_release partition_period now + delay

-- the deadline of a process that is started with a delay in NORMAL   (START, DELAYED_START, section 3)
abbrev pub entry_deadline : ℕ → ℕ → ℕ → Process → Option ℕ
entry_deadline partition_period now delay process = deadline_from (entry_time partition_period now delay process.period) process.time_capacity

-- the deadline of a periodic process for its next release   (PERIODIC_WAIT, section 3)
abbrev pub release_deadline : Process → Option ℕ
release_deadline process = deadline_from (next_release process) process.time_capacity

-- the deadline of a caller after its call, at this time of its core, if the call waits or answers NO_ERROR: PERIODIC_WAIT sets that for the
-- next release, REPLENISH one that the budget gives from now on   (PERIODIC_WAIT, REPLENISH, section 3)
abbrev pub deadline_by : Request → ℕ → Process → Option ℕ
deadline_by (request.Caller CallerOperation.PeriodicWait) now process = release_deadline process
deadline_by (request.Caller (CallerOperation.Replenish budget)) now process = deadline_from now (capacity_given budget)
deadline_by _ now process = process.deadline

-- whether a budget that counts from this time ends after a release; a budget of -1 does not end
abbrev pub ends_after : ℕ → ℤ → ℕ → Bool
ends_after now (pos budget) release = nat_lt release (now + budget)
ends_after now (negsuc zero) release = true
ends_after now (negsuc (suc n)) release = nat_lt (release + suc (suc n)) now

-- missed deadlines

-- whether there is a deadline, and this time has reached it
abbrev pub is_reached : ℕ → Option ℕ → Bool
is_reached now None = false
is_reached now (Some deadline) = nat_le deadline now

-- whether a process runs on this core and has missed its deadline: the core's time has reached it
abbrev pub has_missed : ℕ → ℕ → Process → Bool
has_missed core now process = nat_eq process.affinity core && is_reached now process.deadline

-- whether a process exists, runs on this core and has missed its deadline
abbrev pub is_missed : ℕ → ℕ → Option Process → Bool
is_missed core now None = false
is_missed core now (Some process) = has_missed core now process

-- whether a process of a table that runs on this core has missed its deadline
abbrev pub some_missed : ℕ → ℕ → Table → Bool
some_missed core now [] = false
some_missed core now (entry ∷ entries) = has_missed core now entry.1 || some_missed core now entries
