-- What becomes of a process: by a service of its partition, by the end of its wait, and by its own call.
use Rattle.std.specs.Prelude.{ℕ, List, [], Option, Some, None, Bool, true, false, ℤ, pos, ◌&&◌, if◌then◌else◌}
use Rattle.apex_types.specs.declared.code.Code.{Code}
use Rattle.apex_types.specs.declared.code.Code.TheVariants as code
use Rattle.apex_types.specs.declared.record.Call.{Call as CallRecord}
use Rattle.apex_types.specs.declared.record.Out.{Out}
use Rattle.apex_types.specs.declared.record.Out.TheVariants as out
use Rattle.apex_types.specs.declared.operation.{CallerOperation.CallerOperation, ProcessOperation.ProcessOperation}
use Rattle.apex_types.specs.declared.request.Request.{Request}
use Rattle.apex_types.specs.declared.operation.ObjectOperation.TheVariants as on
use Rattle.apex_types.specs.declared.request.Request.TheVariants as request
use Rattle.apex_types.specs.declared.service.Service.{Service}
use Rattle.apex_types.specs.declared.service.Service.TheVariants as service
use Rattle.apex_types.specs.Requested.{service_of}
use Rattle.apex_machine.specs.declared.state.CoreState.{CoreState}
use Rattle.apex_machine.specs.declared.state.Mode.{Mode}
use Rattle.apex_machine.specs.declared.state.Outcome.{Outcome}
use Rattle.apex_machine.specs.declared.state.Process.{Process}
use Rattle.apex_machine.specs.declared.state.Wait.{Wait}
use Rattle.apex_machine.specs.declared.state.Wait.TheVariants as wait
use Rattle.apex_machine.specs.Arguments.{capacity_given, is_number, is_over, natural_of, period_given}
use Rattle.apex_machine.specs.Conditions.{is_normal}
use Rattle.apex_machine.specs.Deadlines.{deadline_by, entry_deadline}
use Rattle.apex_machine.specs.DueTimes.{delay_kept, entry_wait, next_release, wait_of, waits_for_normal}
use Rattle.apex_machine.specs.Errors.{error_set}
use Rattle.apex_machine.specs.Objects.{is_owner, mutex_effect}
use Rattle.apex_machine.specs.State.{Mutex, Partition, given_object, time_of}
use Rattle.apex_machine.specs.Waiting.{is_no_error, service_at}

-- creation, start and stop

-- a created process is dormant, on the partition's first core   (CREATE_PROCESS, section 3)
abbrev pub new_process : ℕ → List ℕ → ℤ → ℤ → ℤ → Process
new_process core name priority period time_capacity = record {
  name = name;
  base_priority = natural_of priority;
  current_priority = natural_of priority;
  retained_priority = natural_of priority;
  affinity = core;
  period = period_given period;
  time_capacity = capacity_given time_capacity;
  deadline = None;
  last_release = 0;
  alive = false;
  faulted = false;
  suspended = false;
  wait = wait.Nothing;
  ready_position = 0;
  due = None;
  called_at = 0;
}

-- START and DELAYED_START set the current priority back to the base priority; the process enters NORMAL at once, which sets its deadline, or
-- waits for it with its delay, which for START is 0   (START, DELAYED_START, section 3)
abbrev pub started : ℕ → ℕ → ℕ → Mode → ℤ → Process → Process
started place partition_period now mode delay process = record process {
  current_priority = process.base_priority;
  alive = true;
  wait = if is_normal mode then entry_wait partition_period now (natural_of delay) process.period else wait.NormalMode delay;
  deadline = if is_normal mode then entry_deadline partition_period now (natural_of delay) process else None;
  ready_position = place;
}

-- each process that waits for NORMAL enters it, which sets its deadline   (SET_PARTITION_MODE, section 3)
abbrev pub after_normal : ℕ → ℕ → ℕ → Process → Process
after_normal place partition_period now process =
    if waits_for_normal process.wait
    then record process {
      wait = entry_wait partition_period now (delay_kept process.wait) process.period;
      deadline = entry_deadline partition_period now (delay_kept process.wait) process;
      ready_position = place;
    }
    else process

-- a stopped process is dormant: it is neither faulted nor suspended, waits for nothing, has no deadline, and nothing is due to it   (STOP,
-- STOP_SELF, section 3)
abbrev pub stopped : Process → Process
stopped process = record process { alive = false; faulted = false; suspended = false; wait = wait.Nothing; deadline = None; due = None }

-- priorities

-- the owner of a mutex runs with the mutex's priority, and retains its own   (ACQUIRE_MUTEX, section 3)
abbrev pub granted : ℕ → Process → Process
granted priority process = record process { retained_priority = process.current_priority; current_priority = priority }

-- the retained priority becomes the current one again   (RELEASE_MUTEX, section 3)
abbrev pub restored : Process → Process
restored process = record process { current_priority = process.retained_priority }

-- a process, by whether it owned the mutex before and whether it owns it now
abbrev pub on_ownership : Bool → Bool → ℕ → Process → Process
on_ownership false true priority process = granted priority process
on_ownership true false priority process = restored process
on_ownership true true priority process = process
on_ownership false false priority process = process

-- a change of a mutex changes the priority of the process that becomes its owner, and of the process that stops being its owner
abbrev pub by_mutex : Option Mutex → (Mutex → Mutex) → ℕ → Process → Process
by_mutex None change number process = process
by_mutex (Some mutex) change number process =
    on_ownership (is_owner mutex.owner number) (is_owner (change mutex).owner number) mutex.priority process

-- what a service that names a process sets in it, by the time of its core: INITIALIZE_PROCESS_CORE_AFFINITY, START, DELAYED_START,
-- SUSPEND, RESUME and SET_PRIORITY; another definition says how STOP leaves it, and a status leaves it as it is
abbrev pub set_in : ℕ → ℕ → ℕ → Mode → ProcessOperation → Process → Process
set_in place period now mode (ProcessOperation.InitializeCoreAffinity core) process = record process { affinity = natural_of core }
set_in place period now mode ProcessOperation.Start process = started place period now mode (pos 0) process
set_in place period now mode (ProcessOperation.DelayedStart delay) process = started place period now mode delay process
set_in place period now mode ProcessOperation.Stop process = process
set_in place period now mode ProcessOperation.Suspend process = record process { suspended = true }
set_in place period now mode ProcessOperation.Resume process = record process { suspended = false; ready_position = place }
set_in place period now mode (ProcessOperation.SetPriority priority) process = record process { current_priority = natural_of priority; ready_position = place }
set_in place period now mode ProcessOperation.GetStatus process = process
set_in place period now mode ProcessOperation.GetMutexState process = process

-- what a call sets in the processes of its partition, apart from the waits that it ends and its caller's wait and outcome: a service that
-- names a process sets something in its target, SET_PARTITION_MODE in those that wait for NORMAL, ACQUIRE_MUTEX, RELEASE_MUTEX and
-- RESET_MUTEX the priority of the owners, RAISE_APPLICATION_ERROR and the handler's STOP_SELF who is faulted. Times are those of the
-- processes' own cores
abbrev pub set_by : ℕ → ℕ → List CoreState → Partition → ℕ → Request → ℕ → Process → Process
set_by place period cores partition caller (request.Process given operation) number process =
    if is_number given number then set_in place period (time_of cores process.affinity) partition.mode operation process else process
set_by place period cores partition caller (request.SetPartitionMode next) number process = after_normal place period (time_of cores process.affinity) process
set_by place period cores partition caller (request.Object mutex (on.Mutex operation)) number process =
    by_mutex (given_object partition.mutexes mutex) (λ found. (mutex_effect caller operation found).next) number process
set_by place period cores partition caller (request.Health operation) number process =
    error_set place partition caller (request.Health operation) number process
set_by place period cores partition caller (request.Caller operation) number process =
    error_set place partition caller (request.Caller operation) number process
set_by place period cores partition caller _ number process = process

-- the end of a wait

-- the outcome that a service gives its caller, with its code, its value and its message, if there is such a service
abbrev pub outcome_by : Option Service → Code → Option ℤ → List ℕ → Option Outcome
outcome_by None code val bytes = None
outcome_by (Some service) code val bytes = Some (record { service = service; code = code; val = val; val2 = None; val3 = None; bytes = bytes })

-- the service whose call began a wait, if one did
abbrev pub service_of_wait : Wait → Option Service
service_of_wait (wait.Until due) = Some service.TimedWait
service_of_wait (wait.PeriodicRelease due) = Some service.PeriodicWait
service_of_wait (wait.Suspended due) = Some service.SuspendSelf
service_of_wait (wait.At set due) = service_at set
service_of_wait wait.ForLock = Some service.LockPreemption
service_of_wait _ = None

-- the code with which a wait ends that falls due: TIMED_OUT if the process waited for something else than a time, NO_ERROR if it waited for
-- a time
abbrev pub code_when_due : Wait → Code
code_when_due (wait.Suspended due) = code.TimedOut
code_when_due (wait.At set due) = code.TimedOut
code_when_due wait.ForLock = code.TimedOut
code_when_due _ = code.NoError

-- the value with which a wait ends that another process ends: the new owner of the lock has level 1
abbrev pub value_when_woken : Wait → Option ℤ
value_when_woken wait.ForLock = Some (pos 1)
value_when_woken _ = None

-- the release for which a process waited becomes its last one
abbrev pub release_reached : Wait → ℕ → ℕ
release_reached (wait.FirstRelease time) last = time
release_reached (wait.PeriodicRelease time) last = time
release_reached _ last = last

-- a wait ends: the process waits for nothing, its outcome is due, and its ready position is this place; a suspended
-- process stays suspended
abbrev pub wait_ended : ℕ → Option Outcome → Process → Process
wait_ended place outcome process = record process {
  wait = wait.Nothing;
  ready_position = place;
  last_release = release_reached process.wait process.last_release;
  due = outcome;
}

-- a process whose wait ends at a tick
abbrev pub released : ℕ → Process → Process
released place process = wait_ended place (outcome_by (service_of_wait process.wait) (code_when_due process.wait) None []) process

-- a process whose wait a call, an arrival or a departure ends, which hands over the message that it gives, if any
abbrev pub woken_by : ℕ → List ℕ → Process → Process
woken_by place message process = wait_ended place (outcome_by (service_of_wait process.wait) code.NoError (value_when_woken process.wait) message) process

-- the caller

-- a call that renews its caller's ready position: TIMED_WAIT with a delay of 0, or PERIODIC_WAIT whose release is reached
abbrev pub renews : Request → Bool
renews (request.Caller (CallerOperation.TimedWait delay)) = is_over delay
renews (request.Caller CallerOperation.PeriodicWait) = true
renews _ = false

-- the last release after a call: a PERIODIC_WAIT that found the next release reached takes it
abbrev pub release_taken : Request → Process → ℕ
release_taken (request.Caller CallerOperation.PeriodicWait) process = next_release process
release_taken _ process = process.last_release

-- the outcome that a call claims, as it is due to the caller
abbrev pub outcome_of : CallRecord → Code → Outcome
outcome_of call code = record {
  service = service_of call.request;
  code = code;
  val = call.claim.val;
  val2 = call.claim.val2;
  val3 = call.claim.val3;
  bytes = call.claim.bytes;
}

-- the caller after its call: it waits, it is dormant, or its outcome is due
abbrev pub caller_with : ℕ → ℕ → CallRecord → Out → Process → Process
caller_with place now call out.Waits process = record process {
  wait = wait_of call.request call.claim.chan now process;
  deadline = deadline_by call.request now process;
}
caller_with place now call out.Never process = stopped process
caller_with place now call (out.Answer code) process = record process {
  ready_position = if renews call.request && is_no_error (out.Answer code) then place else process.ready_position;
  last_release = if is_no_error (out.Answer code) then release_taken call.request process else process.last_release;
  deadline = if is_no_error (out.Answer code) then deadline_by call.request now process else process.deadline;
  due = Some (outcome_of call code);
}

-- the caller, with the time of its core noted; a handler that has more errors to take stays as it is
abbrev pub caller_after : ℕ → ℕ → Bool → CallRecord → Process → Process
caller_after place now handles_more call process =
    record (if handles_more then process else caller_with place now call call.claim.out process) { called_at = now }
