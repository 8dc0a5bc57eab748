-- Waits and due times: what a process waits for, from when on, and when its wait is over.
use Rattle.std.specs.Prelude.{◌≡◌, ℕ, zero, suc, ◌+◌, ◌*◌, ◌/◌, List, Option, Some, None, Bool, true, false, ℤ, pos, negsuc, nat_eq, nat_le, option_map, ◌&&◌}
use Rattle.apex_types.specs.declared.object_kind.ObjectKind.TheVariants as kind
use Rattle.apex_types.specs.declared.record.Who.{Who}
use Rattle.apex_types.specs.declared.operation.{CallerOperation.CallerOperation}
use Rattle.apex_types.specs.declared.request.Request.{Request}
use Rattle.apex_types.specs.declared.shape.Shape.{Shape}
use Rattle.apex_types.specs.Shapes.{shape_of_queuing, shape_on}
use Rattle.apex_types.specs.declared.request.Request.TheVariants as request
use Rattle.apex_machine.specs.declared.state.Process.{Process}
use Rattle.apex_machine.specs.declared.state.Wait.{Wait}
use Rattle.apex_machine.specs.declared.state.Wait.TheVariants as wait
use Rattle.apex_machine.specs.declared.state.WaitingSet.{WaitingSet}
use Rattle.apex_machine.specs.Arguments.{natural_of}
use Rattle.apex_machine.specs.State.{Table, is_named, is_same_kind, item_at}
use Rattle.apex_machine.specs.Waiting.{set_of}

-- what a wait is for

-- whether a wait is for the mode NORMAL
abbrev pub waits_for_normal : Wait → Bool
waits_for_normal (wait.NormalMode delay) = true
waits_for_normal _ = false

-- the delay with which a process waits for NORMAL
abbrev pub delay_kept : Wait → ℕ
delay_kept (wait.NormalMode delay) = natural_of delay
delay_kept _ = 0

-- whether a wait is that of a process that suspended itself
abbrev pub is_suspension : Wait → Bool
is_suspension (wait.Suspended due) = true
is_suspension _ = false

-- whether a wait is for a mutex
abbrev pub is_for_mutex : Wait → Bool
is_for_mutex (wait.At set due) = is_same_kind set.kind kind.Mutex
is_for_mutex _ = false

-- whether a wait is for the lock of the partition
abbrev pub is_for_lock : Wait → Bool
is_for_lock wait.ForLock = true
is_for_lock _ = false

-- whether a process exists and waits for the lock; a process that waits is alive
abbrev pub waits_for_lock : Option Process → Bool
waits_for_lock None = false
waits_for_lock (Some process) = process.alive && is_for_lock process.wait

-- releases of periodic processes

-- the first release: the least multiple of the partition's period above this time
abbrev pub first_release : ℕ → ℕ → ℕ
first_release partition_period now = (now / partition_period + 1) * partition_period

-- what an aperiodic process waits for that is started with a delay: that it is over; with a delay of 0 for nothing
abbrev pub delay_wait : ℕ → ℕ → Wait
delay_wait now zero = wait.Nothing
delay_wait now (suc delay) = wait.Delay (now + suc delay)

-- what a process waits for that is started with a delay in NORMAL: an aperiodic one that the delay is over, a periodic one for its first
-- release, which the delay puts off   (DELAYED_START, section 3)
abbrev pub entry_wait : ℕ → ℕ → ℕ → Option ℕ → Wait
entry_wait partition_period now delay None = delay_wait now delay
entry_wait partition_period now delay (Some period) = wait.FirstRelease (first_release partition_period now + delay)

-- the release after this one: a period later, if the process has a period
abbrev pub release_after : ℕ → Option ℕ → ℕ
release_after last None = last
release_after last (Some period) = last + period

-- the next release of a periodic process
abbrev pub next_release : Process → ℕ
next_release process = release_after process.last_release process.period

-- whether a process has reached its next release
abbrev pub is_released : ℕ → Option Process → Bool
is_released now None = false
is_released now (Some process) = nat_le (next_release process) now

-- what a caller waits for

-- the time at which a time-out that began at this time falls due; -1 never falls due
abbrev pub due_time : ℤ → ℕ → Option ℕ
due_time (pos n) now = Some (now + n)
due_time (negsuc n) now = None

-- the time-out of an operation, if its caller may wait
abbrev pub time_out_in : Shape → Option ℤ
time_out_in shape = option_map (λ allowed. allowed.time_out) shape.wait

-- the time-out of a service that may wait for something
abbrev pub time_out_of : Request → Option ℤ
time_out_of (request.Caller (CallerOperation.SuspendSelf time_out)) = Some time_out
time_out_of (request.Object number operation) = time_out_in (shape_on operation)
time_out_of (request.QueuingPort port operation) = time_out_in (shape_of_queuing operation)
time_out_of _ = None

-- the time at which a time-out falls due, if there is one
abbrev pub due_of_call : Option ℤ → ℕ → Option ℕ
due_of_call None now = None
due_of_call (Some time_out) now = due_time time_out now

-- a wait in a set, if there is one
abbrev pub wait_in : Option WaitingSet → Option ℕ → Wait
wait_in None due = wait.Nothing
wait_in (Some set) due = wait.At set due

-- what a caller waits for, if it began to wait at this time of its core
abbrev pub wait_of : Request → Option ℕ → ℕ → Process → Wait
wait_of (request.Caller (CallerOperation.TimedWait (pos delay))) chan now process = wait.Until (now + delay)
wait_of (request.Caller CallerOperation.PeriodicWait) chan now process = wait.PeriodicRelease (next_release process)
wait_of (request.Caller (CallerOperation.SuspendSelf time_out)) chan now process = wait.Suspended (due_time time_out now)
wait_of (request.Preemption operation) chan now process = wait.ForLock
wait_of asked chan now process = wait_in (set_of asked chan) (due_of_call (time_out_of asked) now)

-- when a wait is over

-- a wait that has a due time is over once the time of the process's core has reached it
abbrev pub due_by : ℕ → Wait → Bool
due_by time (wait.FirstRelease due) = nat_le due time
due_by time (wait.Delay due) = nat_le due time
due_by time (wait.Until due) = nat_le due time
due_by time (wait.PeriodicRelease due) = nat_le due time
due_by time (wait.Suspended (Some due)) = nat_le due time
due_by time (wait.At set (Some due)) = nat_le due time
due_by time _ = false

-- whether a process of this core falls due at this time
abbrev pub falls_due : ℕ → ℕ → Option Process → Bool
falls_due core time None = false
falls_due core time (Some process) = nat_eq process.affinity core && due_by time process.wait

-- of this partition's processes, exactly those that fall due are named   (process and time management, section 3)
abbrev pub NamesThoseDue : ℕ → ℕ → ℕ → Table → List Who → Type 0
NamesThoseDue partition core time table woken =
    (number : ℕ) → is_named (record { part = partition; proc = number }) woken ≡ falls_due core time (item_at table number)
