-- Which calls are within the profile, and what each service gives its caller if no error condition holds.
use Rattle.std.specs.Prelude.{ℕ, List, [], ◌∷◌, Option, Some, None, Bool, true, ℤ, pos, not, nat_eq, ◌&&◌, if◌then◌else◌}
use Rattle.apex_types.specs.declared.record.Who.{Who}
use Rattle.apex_types.specs.declared.operation.{CallerOperation.CallerOperation, ProcessOperation.ProcessOperation}
use Rattle.apex_types.specs.declared.request.Request.{Request}
use Rattle.apex_types.specs.declared.request.Request.TheVariants as request
use Rattle.apex_types.specs.Requested.{kind_of}
use Rattle.apex_types.specs.Shapes.{kind_used}
use Rattle.apex_machine.specs.declared.state.CoreState.{CoreState}
use Rattle.apex_machine.specs.declared.state.Process.{Process}
pub use Rattle.apex_machine.specs.Answer.{Answer, HasNoValues, HasValue, HasValues, Value, Nothing, Number, NewNumber, NamesExactly, done, done_with, never, waiting}
pub use Rattle.apex_machine.specs.Arguments.{is_number, is_over, natural_of}
use Rattle.apex_machine.specs.Answer.{never_waking, waking}
use Rattle.apex_machine.specs.Conditions.{of_caller, owns_mutex}
use Rattle.apex_machine.specs.Configuration.{Configuration}
use Rattle.apex_machine.specs.Errors.{health_answer}
use Rattle.apex_machine.specs.DueTimes.{is_for_mutex, is_released, is_suspension}
use Rattle.apex_machine.specs.Locks.{freed_by_stop, lock_effect}
use Rattle.apex_machine.specs.Names.{number_found, number_of}
use Rattle.apex_machine.specs.Objects.{object_effect}
use Rattle.apex_machine.specs.State.{Partition, Table, created, given_object, is_free, is_normal, item_at, objects_of, time_of}
use Rattle.apex_machine.specs.Statuses.{mutex_state, partition_status, process_status, status_of, telling}

-- the profile

-- whether a process waits for a mutex
abbrev pub waits_for_mutex : Table → ℕ → Bool
waits_for_mutex table number = of_caller (λ process. is_for_mutex process.wait) (item_at table number)

-- if no error condition holds, these calls are outside the profile: a stop of a mutex's owner, or of process 0 by itself before NORMAL;
-- SUSPEND and SET_PRIORITY of a process that owns a mutex or waits for one
abbrev pub in_profile : Who → Partition → Request → Bool
in_profile who partition (request.Process process ProcessOperation.Stop) = not (owns_mutex partition.mutexes (natural_of process))
in_profile who partition (request.Caller CallerOperation.StopSelf) =
    not (nat_eq who.proc 0 && not (is_normal partition.mode)) && not (owns_mutex partition.mutexes who.proc)
in_profile who partition (request.Process process ProcessOperation.Suspend) =
    not (owns_mutex partition.mutexes (natural_of process)) && not (waits_for_mutex partition.table (natural_of process))
in_profile who partition (request.Process process (ProcessOperation.SetPriority priority)) =
    not (owns_mutex partition.mutexes (natural_of process)) && not (waits_for_mutex partition.table (natural_of process))
in_profile who partition _ = true

-- what the caller gets

-- the answer of an object that is created
abbrev pub answer_by : {Object : Type 0} → Option Object → (Object → Answer) → Answer
answer_by None gives = done
answer_by (Some object) gives = gives object

-- what RESUME gives: the wait of a process that suspended itself ends
abbrev pub resuming : Who → Option Process → Answer
resuming who None = done
resuming who (Some process) = if is_suspension process.wait then waking (who ∷ []) else done

-- a process of the caller's partition, by the number that the caller gives
abbrev pub peer : Who → ℤ → Who
peer who process = record { part = who.part; proc = natural_of process }

-- what each service gives, by the cores and the caller's core   (section 3): a creation a new number, GET_MY_ID the caller's, GET_TIME the
-- time, GET_PROCESS_ID, GET_BUFFER_ID and its counterparts the number of what has the name, GET_PARTITION_STATUS, GET_PROCESS_STATUS,
-- GET_BUFFER_STATUS and its counterparts a status, GET_PROCESS_MUTEX_STATE the mutex that the process owns; a wait with a time-out or a delay
-- of 0 is over at once, and so is PERIODIC_WAIT if the next release is reached; a stop of the lock's owner ends the wait of the process that
-- gets the lock; GET_ERROR_STATUS the oldest error; STOP_SELF, SET_PARTITION_MODE and an error that restarts the partition do not return
abbrev pub answer_of : Configuration → List CoreState → ℕ → Who → Partition → Request → Answer
answer_of configuration cores core who partition (request.CreateProcess name priority period time_capacity) = done_with (NewNumber (is_free partition.table))
answer_of configuration cores core who partition (request.Process process ProcessOperation.Resume) = resuming (peer who process) (created partition.table process)
answer_of configuration cores core who partition (request.Process process ProcessOperation.GetStatus) =
    answer_by (created partition.table process) (process_status cores (peer who process))
answer_of configuration cores core who partition (request.Process process ProcessOperation.GetMutexState) = done_with (Number (mutex_state partition (natural_of process)))
answer_of configuration cores core who partition (request.Process process ProcessOperation.Stop) = waking (freed_by_stop (natural_of process) partition.lock)
answer_of configuration cores core who partition (request.Caller CallerOperation.StopSelf) = never_waking (freed_by_stop who.proc partition.lock)
answer_of configuration cores core who partition (request.Caller (CallerOperation.SuspendSelf time_out)) = if is_over time_out then done else waiting
answer_of configuration cores core who partition (request.Caller CallerOperation.GetMyId) = done_with (Number (pos who.proc))
answer_of configuration cores core who partition (request.Caller (CallerOperation.TimedWait delay)) = if is_over delay then done else waiting
answer_of configuration cores core who partition (request.Caller CallerOperation.PeriodicWait) = if is_released (time_of cores core) (item_at partition.table who.proc) then done else waiting
answer_of configuration cores core who partition (request.Caller CallerOperation.GetTime) = done_with (Number (pos (time_of cores core)))
answer_of configuration cores core who partition (request.Caller CallerOperation.GetPartitionStatus) = partition_status partition
answer_of configuration cores core who partition (request.SetPartitionMode mode) = never
answer_of configuration cores core who partition (request.Create name object) = done_with (NewNumber (is_free (objects_of partition (kind_of object))))
answer_of configuration cores core who partition (request.Object number operation) =
    answer_by (given_object (objects_of partition (kind_used operation)) number) (λ found. (object_effect who.proc operation found).answer)
answer_of configuration cores core who partition (request.GetId kind name) = done_with (number_found (number_of partition kind name))
answer_of configuration cores core who partition (request.GetStatus kind object) = telling (status_of partition kind object)
answer_of configuration cores core who partition (request.Preemption operation) = (lock_effect who.proc operation partition.lock).answer
answer_of configuration cores core who partition (request.Health operation) = health_answer configuration who.part partition who.proc operation
answer_of configuration cores core who partition _ = done
