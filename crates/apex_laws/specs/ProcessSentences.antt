-- What becomes of a process, in sentences: one case for each sentence of the rule of a service, of the end of a wait, or of a call.
use Rattle.std.specs.Prelude.{◌≡◌, ◌⊎◌, ℕ, ◌+◌, ◌<◌, ◌≤◌, ℤ, pos, negsuc, List, [], ◌∷◌, Option, Some, None, true, false, IsFalse, IsTrue}
use Rattle.apex_types.specs.declared.code.Code.{Code}
use Rattle.apex_types.specs.declared.code.Code.TheVariants as code
use Rattle.apex_types.specs.declared.record.Call.{Call as CallRecord}
use Rattle.apex_types.specs.declared.record.Out.TheVariants as out
use Rattle.apex_types.specs.declared.record.Who.{Who}
use Rattle.apex_types.specs.declared.operation.{CallerOperation.CallerOperation, HealthOperation.HealthOperation, LockOperation.LockOperation, MutexOperation.MutexOperation, ProcessOperation.ProcessOperation}
use Rattle.apex_types.specs.declared.request.Request.{Request}
use Rattle.apex_types.specs.declared.operation.ObjectOperation.TheVariants as on
use Rattle.apex_types.specs.declared.request.Request.TheVariants as request
use Rattle.apex_types.specs.declared.service.Service.{Service}
use Rattle.apex_types.specs.declared.service.Service.TheVariants as service
use Rattle.apex_machine.specs.declared.state.CoreState.{CoreState}
use Rattle.apex_machine.specs.declared.state.Mode.{Mode}
use Rattle.apex_machine.specs.declared.state.Mode.TheVariants as mode
use Rattle.apex_machine.specs.declared.state.Process.{Process}
use Rattle.apex_machine.specs.declared.state.StartCondition.{StartCondition}
use Rattle.apex_machine.specs.declared.state.StartCondition.TheVariants as start
use Rattle.apex_machine.specs.declared.state.Wait.{Wait}
use Rattle.apex_machine.specs.declared.state.Wait.TheVariants as wait
use Rattle.apex_machine.specs.declared.state.WaitingSet.{WaitingSet}
use Rattle.apex_machine.specs.DueTimes.{due_of_call, due_time, next_release, time_out_of}
use Rattle.apex_machine.specs.Arguments.{natural_of}
use Rattle.apex_machine.specs.Choice.{IsReady}
use Rattle.apex_machine.specs.Configuration.{Configuration}
use Rattle.apex_machine.specs.Objects.{acquired, handed_on, mutex_released}
use Rattle.apex_machine.specs.Processes.{outcome_by, outcome_of}
use Rattle.apex_machine.specs.Answer.{Answer, NewNumber, Number, done, done_with, never, never_waking, waiting, waking}
use Rattle.apex_machine.specs.Locks.{first_for_lock}
use Rattle.apex_machine.specs.Names.{number_found, number_of}
use Rattle.apex_machine.specs.Services.{answer_of, peer}
use Rattle.apex_machine.specs.Statuses.{mutex_owned, reporting, status_of, telling}
use Rattle.apex_machine.specs.declared.state.Entry.{Entry}
use Rattle.apex_machine.specs.State.{Lock, Mutex, Partition, created, given_object, is_free, item_at, occupant_of, time_of}
use Rattle.apex_machine.specs.Waiting.{first_waiter, service_at, set_of}
pub use Rattle.apex_laws.specs.DeadlineSentences.{IsFirstRelease}
use Rattle.apex_laws.specs.DeadlineSentences.{IsDeadlineAfter, IsEntryDeadline}
use Rattle.apex_laws.specs.ErrorSentences.{HasMoreErrors, IsAfterError, IsHealthAnswer, IsSetByStop}

-- releases and entry into NORMAL

-- a process enters NORMAL with a delay, which is 0 for START: an aperiodic one waits for nothing, or until the delay is over; a periodic one
-- waits for its first release, which the delay puts off
pub data IsEntry (partition_period now delay : ℕ) (period : Option ℕ) (entry : Wait) : Type 0 where
  at_once : period ≡ None → delay ≡ 0 → entry ≡ wait.Nothing → IsEntry partition_period now delay period entry
  delayed : period ≡ None → 0 < delay → entry ≡ wait.Delay (now + delay) → IsEntry partition_period now delay period entry
  periodic : (own time : ℕ) → period ≡ Some own → IsFirstRelease partition_period now time → entry ≡ wait.FirstRelease (time + delay)
      → IsEntry partition_period now delay period entry

-- START, DELAYED_START: the current priority becomes the base priority; in NORMAL the process enters NORMAL at once and gets its deadline, in
-- any other mode it waits for NORMAL and keeps its delay
pub data IsStarted (place partition_period now : ℕ) (current : Mode) (delay : ℤ) (old new : Process) : Type 0 where
  in_normal : (entry : Wait) (deadline : Option ℕ) → current ≡ mode.Normal → IsEntry partition_period now (natural_of delay) old.period entry
      → IsEntryDeadline partition_period now (natural_of delay) old deadline
      → new ≡ record old { current_priority = old.base_priority; alive = true; wait = entry; deadline = deadline; ready_position = place }
      → IsStarted place partition_period now current delay old new
  before_normal : ¬ (current ≡ mode.Normal)
      → new ≡ record old { current_priority = old.base_priority; alive = true; wait = wait.NormalMode delay; deadline = None; ready_position = place }
      → IsStarted place partition_period now current delay old new

-- the mode NORMAL is entered: each process that waits for it enters it with its delay and gets its deadline, and no other process changes
pub data IsNormalEntered (place partition_period now : ℕ) (old new : Process) : Type 0 where
  waited : (delay : ℤ) (entry : Wait) (deadline : Option ℕ) → old.wait ≡ wait.NormalMode delay → IsEntry partition_period now (natural_of delay) old.period entry
      → IsEntryDeadline partition_period now (natural_of delay) old deadline
      → new ≡ record old { wait = entry; deadline = deadline; ready_position = place } → IsNormalEntered place partition_period now old new
  else_stays : ((delay : ℤ) → ¬ (old.wait ≡ wait.NormalMode delay)) → new ≡ old → IsNormalEntered place partition_period now old new

-- owners of mutexes: a process that becomes the owner retains its priority and gets the mutex's; a process that stops being the owner gets
-- the retained priority back; no other process changes
pub data IsOwnerChange (before after : Option ℕ) (priority number : ℕ) (old new : Process) : Type 0 where
  becomes_owner : ¬ (before ≡ Some number) → after ≡ Some number → new ≡ record old { retained_priority = old.current_priority; current_priority = priority }
      → IsOwnerChange before after priority number old new
  was_owner : before ≡ Some number → ¬ (after ≡ Some number) → new ≡ record old { current_priority = old.retained_priority } → IsOwnerChange before after priority number old new
  stays_owner : before ≡ Some number → after ≡ Some number → new ≡ old → IsOwnerChange before after priority number old new
  never_owner : ¬ (before ≡ Some number) → ¬ (after ≡ Some number) → new ≡ old → IsOwnerChange before after priority number old new

-- a change of a mutex that is found
abbrev pub IsMutexChange : Option Mutex → (Mutex → Mutex) → ℕ → Process → Process → Type 0
IsMutexChange None change number old new = new ≡ old
IsMutexChange (Some mutex) change number old new = IsOwnerChange mutex.owner (change mutex).owner mutex.priority number old new

-- what a service sets

-- a service changes its target, and no other process
abbrev pub OnTarget : ℤ → ℕ → Type 0 → Process → Process → Type 0
OnTarget process number Changed old new = ((process ≡ pos number) × Changed) ⊎ ((¬ (process ≡ pos number)) × (new ≡ old))

-- what a service sets in a process of its caller's partition, apart from the waits that end and its caller's wait and outcome
abbrev pub IsSetBy : ℕ → ℕ → List CoreState → Partition → ℕ → Request → ℕ → Process → Process → Type 0
-- the core on which it runs is the one given
IsSetBy place period cores partition caller (request.Process process (ProcessOperation.InitializeCoreAffinity core)) number old new =
    OnTarget process number (new ≡ record old { affinity = natural_of core }) old new
IsSetBy place period cores partition caller (request.Process process ProcessOperation.Start) number old new =
    OnTarget process number (IsStarted place period (time_of cores old.affinity) partition.mode (pos 0) old new) old new
IsSetBy place period cores partition caller (request.Process process (ProcessOperation.DelayedStart delay)) number old new =
    OnTarget process number (IsStarted place period (time_of cores old.affinity) partition.mode delay old new) old new
-- the target is marked
IsSetBy place period cores partition caller (request.Process process ProcessOperation.Suspend) number old new = OnTarget process number (new ≡ record old { suspended = true }) old new
-- the mark is cleared, and the target is ready from this place on, if it waits for nothing
IsSetBy place period cores partition caller (request.Process process ProcessOperation.Resume) number old new =
    OnTarget process number (new ≡ record old { suspended = false; ready_position = place }) old new
-- the current priority is the one given, and the ready position is renewed
IsSetBy place period cores partition caller (request.Process process (ProcessOperation.SetPriority priority)) number old new =
    OnTarget process number (new ≡ record old { current_priority = natural_of priority; ready_position = place }) old new
IsSetBy place period cores partition caller (request.SetPartitionMode next) number old new = IsNormalEntered place period (time_of cores old.affinity) old new
IsSetBy place period cores partition caller (request.Object mutex (on.Mutex (MutexOperation.Acquire time_out))) number old new =
    IsMutexChange (given_object partition.mutexes mutex) (λ found. (acquired caller time_out found).next) number old new
IsSetBy place period cores partition caller (request.Object mutex (on.Mutex MutexOperation.Release)) number old new =
    IsMutexChange (given_object partition.mutexes mutex) (λ found. (mutex_released (first_waiter found.discipline found.waiters) found).next) number old new
IsSetBy place period cores partition caller (request.Object mutex (on.Mutex (MutexOperation.Reset process))) number old new =
    IsMutexChange (given_object partition.mutexes mutex) (λ found. (handed_on (first_waiter found.discipline found.waiters) found).next) number old new
-- RAISE_APPLICATION_ERROR is an error of its caller
IsSetBy place period cores partition caller (request.Health (HealthOperation.RaiseError error length message)) number old new =
    IsAfterError place partition caller number old new
-- STOP_SELF of the error handler ends its work on the errors that are no longer listed
IsSetBy place period cores partition caller (request.Caller CallerOperation.StopSelf) number old new = IsSetByStop place partition caller number old new
-- any other service sets nothing
IsSetBy place period cores partition caller _ number old new = new ≡ old

-- the end of a wait

-- the time at which a wait falls due: a release, the end of a delay, or the end of a time-out, if there is one
abbrev pub HasDueTime : Wait → ℕ → Type 0
HasDueTime (wait.FirstRelease due) time = time ≡ due
HasDueTime (wait.Delay due) time = time ≡ due
HasDueTime (wait.Until due) time = time ≡ due
HasDueTime (wait.PeriodicRelease due) time = time ≡ due
HasDueTime (wait.Suspended (Some due)) time = time ≡ due
HasDueTime (wait.At set (Some due)) time = time ≡ due
HasDueTime _ time = ⊥

-- a process falls due on a core at a time: the core is its own, and the time has reached its due time
pub record IsDue (core now : ℕ) (process : Process) : Type 0 where
  pub affinity : process.affinity ≡ core
  pub time : ℕ
  pub due : HasDueTime process.wait time
  pub reached : time ≤ now

-- a process whose wait ends, with this outcome of the service due for which it waited, with this value, if there is such a service
abbrev pub ends_valued : ℕ → Option Service → Code → Option ℤ → List ℕ → Process → Process
ends_valued place of given value message process =
    record process { wait = wait.Nothing; ready_position = place; due = outcome_by of given value message }

-- the same without a value
abbrev pub ends_with : ℕ → Option Service → Code → List ℕ → Process → Process
ends_with place of given message process = ends_valued place of given None message process

-- a wait that falls due: TIMED_WAIT and PERIODIC_WAIT return NO_ERROR, SUSPEND_SELF and the waits for objects TIMED_OUT; the release
-- for which the process waited becomes its last one; a first release and the end of the delay of a start return nothing
pub data IsReleased (place : ℕ) (old new : Process) : Type 0 where
  first_release : (time : ℕ) → old.wait ≡ wait.FirstRelease time → new ≡ record old { wait = wait.Nothing; ready_position = place; last_release = time; due = None }
      → IsReleased place old new
  start_delay : (time : ℕ) → old.wait ≡ wait.Delay time → new ≡ record old { wait = wait.Nothing; ready_position = place; due = None } → IsReleased place old new
  delay : (time : ℕ) → old.wait ≡ wait.Until time → new ≡ ends_with place (Some service.TimedWait) code.NoError [] old → IsReleased place old new
  release : (time : ℕ) → old.wait ≡ wait.PeriodicRelease time
      → new ≡ ends_with place (Some service.PeriodicWait) code.NoError [] (record old { last_release = time }) → IsReleased place old new
  suspension : (due : Option ℕ) → old.wait ≡ wait.Suspended due → new ≡ ends_with place (Some service.SuspendSelf) code.TimedOut [] old → IsReleased place old new
  object : (set : WaitingSet) (due : Option ℕ) → old.wait ≡ wait.At set due → new ≡ ends_with place (service_at set) code.TimedOut [] old → IsReleased place old new

-- a wait that a call, an arrival or a departure ends: the waiting service returns NO_ERROR, and the message if one is handed over; a process
-- that gets the lock returns from LOCK_PREEMPTION with level 1
pub data IsWoken (place : ℕ) (message : List ℕ) (old new : Process) : Type 0 where
  suspension : (due : Option ℕ) → old.wait ≡ wait.Suspended due → new ≡ ends_with place (Some service.SuspendSelf) code.NoError message old → IsWoken place message old new
  object : (set : WaitingSet) (due : Option ℕ) → old.wait ≡ wait.At set due → new ≡ ends_with place (service_at set) code.NoError message old → IsWoken place message old new
  lock : old.wait ≡ wait.ForLock → new ≡ ends_valued place (Some service.LockPreemption) code.NoError (Some (pos 1)) message old → IsWoken place message old new

-- a process waits for another: until it is resumed, in a waiting set, or for the lock
abbrev pub WaitsForOther : Wait → Type 0
WaitsForOther (wait.Suspended due) = Unit {0}
WaitsForOther (wait.At set due) = Unit {0}
WaitsForOther wait.ForLock = Unit {0}
WaitsForOther _ = ⊥

-- STOP, STOP_SELF: the process is dormant, neither faulted nor suspended, waits for nothing, has no deadline, and nothing is due to it
abbrev pub IsStopped : Process → Process → Type 0
IsStopped old new = new ≡ record old { alive = false; faulted = false; suspended = false; wait = wait.Nothing; deadline = None; due = None }

-- the caller

-- what a caller waits for: TIMED_WAIT for the delay, PERIODIC_WAIT for the next release, SUSPEND_SELF for a resumption, LOCK_PREEMPTION for
-- the lock, any other service in its waiting set; SUSPEND_SELF and waits in sets last until their time-out, if they have one
pub data IsBegun (now : ℕ) (asked : Request) (chan : Option ℕ) (process : Process) (begun : Wait) : Type 0 where
  delay : (ticks : ℕ) → asked ≡ request.Caller (CallerOperation.TimedWait (pos ticks)) → begun ≡ wait.Until (now + ticks) → IsBegun now asked chan process begun
  release : asked ≡ (request.Caller CallerOperation.PeriodicWait) → begun ≡ wait.PeriodicRelease (next_release process) → IsBegun now asked chan process begun
  suspension : (time_out : ℤ) → asked ≡ request.Caller (CallerOperation.SuspendSelf time_out) → begun ≡ wait.Suspended (due_time time_out now) → IsBegun now asked chan process begun
  object : (set : WaitingSet) → set_of asked chan ≡ Some set → begun ≡ wait.At set (due_of_call (time_out_of asked) now) → IsBegun now asked chan process begun
  lock : (operation : LockOperation) → asked ≡ request.Preemption operation → begun ≡ wait.ForLock → IsBegun now asked chan process begun

-- a call that puts its caller behind the others of its priority when it answers NO_ERROR
abbrev pub Renews : Request → Type 0
Renews (request.Caller (CallerOperation.TimedWait ticks)) = ticks ≡ pos 0
Renews (request.Caller CallerOperation.PeriodicWait) = Unit {0}
Renews _ = ⊥

-- a caller that takes the release that it found reached
abbrev pub taking : Request → Process → Process
taking (request.Caller CallerOperation.PeriodicWait) process = record process { last_release = next_release process }
taking _ process = process

-- the caller after its call: it waits; it is stopped; or its outcome is due, and if NO_ERROR answers a call that renews, its ready position
-- is this place. If it waits or NO_ERROR answers, it has the deadline after the call. The time of its core is noted
pub data HasCalled (place now : ℕ) (call : CallRecord) (old new : Process) : Type 0 where
  waits : (begun : Wait) (deadline : Option ℕ) → call.claim.out ≡ out.Waits → IsBegun now call.request call.claim.chan old begun
      → IsDeadlineAfter call.request now old deadline → new ≡ record old { wait = begun; deadline = deadline; called_at = now } → HasCalled place now call old new
  ends : (stopped : Process) → call.claim.out ≡ out.Never → IsStopped old stopped → new ≡ record stopped { called_at = now } → HasCalled place now call old new
  is_renewed : (deadline : Option ℕ) → call.claim.out ≡ out.Answer code.NoError → Renews call.request → IsDeadlineAfter call.request now old deadline
      → new ≡ record (taking call.request old) { ready_position = place; deadline = deadline; due = Some (outcome_of call code.NoError); called_at = now }
      → HasCalled place now call old new
  is_answered : (deadline : Option ℕ) → call.claim.out ≡ out.Answer code.NoError → ¬ Renews call.request → IsDeadlineAfter call.request now old deadline
      → new ≡ record old { deadline = deadline; due = Some (outcome_of call code.NoError); called_at = now } → HasCalled place now call old new
  is_refused : (other : Code) → call.claim.out ≡ out.Answer other → ¬ (other ≡ code.NoError)
      → new ≡ record old { due = Some (outcome_of call other); called_at = now } → HasCalled place now call old new

-- the caller after its call in this partition; a handler that has more errors to take stays ready, and only the time of its core is noted
pub data IsCaller (place now : ℕ) (partition : Partition) (call : CallRecord) (old new : Process) : Type 0 where
  has_more : HasMoreErrors partition call.who.proc call.request → new ≡ record old { called_at = now } → IsCaller place now partition call old new
  has_called : ¬ HasMoreErrors partition call.who.proc call.request → HasCalled place now call old new → IsCaller place now partition call old new

-- creation

-- CREATE_PROCESS: a dormant process of this name, priority, period and time capacity, on the partition's first core; it waits for nothing, it
-- is neither faulted nor suspended, it has no deadline, nothing is due to it, and no release, ready position or call is noted
pub record IsCreated (core : ℕ) (called : List ℕ) (priority : ℕ) (given_period given_capacity : Option ℕ) (new : Process) : Type 0 where
  pub name : new.name ≡ called
  pub base_priority : new.base_priority ≡ priority
  pub current_priority : new.current_priority ≡ priority
  pub retained_priority : new.retained_priority ≡ priority
  pub affinity : new.affinity ≡ core
  pub period : new.period ≡ given_period
  pub time_capacity : new.time_capacity ≡ given_capacity
  pub deadline : new.deadline ≡ None
  pub alive : IsFalse new.alive
  pub faulted : IsFalse new.faulted
  pub suspended : IsFalse new.suspended
  pub wait : new.wait ≡ wait.Nothing
  pub due : new.due ≡ None
  pub last_release : new.last_release ≡ 0
  pub ready_position : new.ready_position ≡ 0
  pub called_at : new.called_at ≡ 0

-- what the services of process management and time give

-- what is over at once is done; else the caller waits
pub data IsOverOrWaits (Over : Type 0) (answer : Answer) : Type 0 where
  over : Over → answer ≡ done → IsOverOrWaits Over answer
  later : ¬ Over → answer ≡ waiting → IsOverOrWaits Over answer

-- a periodic process has reached its next release, one period after the last one
abbrev pub IsAtRelease : ℕ → Option Process → Type 0
IsAtRelease now None = ⊥
IsAtRelease now (Some process) = next_release process ≤ now

-- RESUME ends the wait of a target that suspended itself; for any other target it only clears the mark
pub data IsResuming (target : Who) (found : Option Process) (answer : Answer) : Type 0 where
  suspended_itself : (process : Process) (due : Option ℕ) → found ≡ Some process → process.wait ≡ wait.Suspended due → answer ≡ waking (target ∷ []) → IsResuming target found answer
  was_marked : (process : Process) → found ≡ Some process → ((due : Option ℕ) → ¬ (process.wait ≡ wait.Suspended due)) → answer ≡ done → IsResuming target found answer
  nobody : found ≡ None → answer ≡ done → IsResuming target found answer

-- a mode has a number: IDLE is 0, COLD_START 1, WARM_START 2 and NORMAL 3
abbrev pub IsModeNumber : Mode → ℕ → Type 0
IsModeNumber mode.Idle number = number ≡ 0
IsModeNumber mode.ColdStart number = number ≡ 1
IsModeNumber mode.WarmStart number = number ≡ 2
IsModeNumber mode.Normal number = number ≡ 3

-- a start condition has a number: a normal start is 0, a restart of the partition 1, one after an error 3
abbrev pub IsStartNumber : StartCondition → ℕ → Type 0
IsStartNumber start.NormalStart number = number ≡ 0
IsStartNumber start.PartitionRestart number = number ≡ 1
IsStartNumber start.ErrorRestart number = number ≡ 3

-- GET_PARTITION_STATUS: the mode, the level of the lock, and the start condition
pub record IsPartitionStatus (partition : Partition) (answer : Answer) : Type 0 where
  pub mode : ℕ
  pub is_mode : IsModeNumber partition.mode mode
  pub start : ℕ
  pub is_start : IsStartNumber partition.start start
  pub reports : answer ≡ reporting (pos mode) (Some (pos partition.lock.level)) (Some (pos start))

-- the state of a process has a number: 0 if the process is dormant; 1 if it is ready and not the occupant of its core; 2 if it is ready and
-- the occupant of its core; 3 if it waits, or is suspended; 4 if it is faulted
pub data IsStateNumber (cores : List CoreState) (who : Who) (process : Process) (number : ℕ) : Type 0 where
  dormant : IsFalse process.alive → number ≡ 0 → IsStateNumber cores who process number
  ready : IsReady process.affinity process → ¬ (occupant_of cores process.affinity ≡ Some who) → number ≡ 1 → IsStateNumber cores who process number
  running : IsReady process.affinity process → occupant_of cores process.affinity ≡ Some who → number ≡ 2 → IsStateNumber cores who process number
  waits : IsTrue process.alive → IsFalse process.faulted → ¬ IsReady process.affinity process → number ≡ 3 → IsStateNumber cores who process number
  faulted : IsTrue process.alive → IsTrue process.faulted → number ≡ 4 → IsStateNumber cores who process number

-- a deadline is reported as it is, and none as -1
abbrev pub IsDeadlineNumber : Option ℕ → ℤ → Type 0
IsDeadlineNumber None number = number ≡ negsuc 0
IsDeadlineNumber (Some deadline) number = number ≡ pos deadline

-- GET_PROCESS_STATUS: the state, the current priority, and the deadline
pub data IsProcessStatus (cores : List CoreState) (target : Who) (found : Option Process) (answer : Answer) : Type 0 where
  of_process : (process : Process) (number : ℕ) (deadline : ℤ) → found ≡ Some process → IsStateNumber cores target process number
      → IsDeadlineNumber process.deadline deadline
      → answer ≡ reporting (pos number) (Some (pos process.current_priority)) (Some deadline) → IsProcessStatus cores target found answer
  nobody : found ≡ None → answer ≡ done → IsProcessStatus cores target found answer

-- GET_PROCESS_MUTEX_STATE: -3 for the owner of the lock, and for any other process the number of the mutex that it owns, or -2
pub data IsMutexState (partition : Partition) (process : ℕ) (answer : Answer) : Type 0 where
  owns_lock : partition.lock.owner ≡ Some process → answer ≡ done_with (Number (negsuc 2)) → IsMutexState partition process answer
  other : ¬ (partition.lock.owner ≡ Some process) → answer ≡ done_with (Number (mutex_owned partition.mutexes process)) → IsMutexState partition process answer

-- STOP, STOP_SELF: if the process that is stopped owns the lock and processes wait for it, the wait of the first ends; else no wait ends
pub data IsStop (process : ℕ) (lock : Lock) (Answers : List Who → Answer) (answer : Answer) : Type 0 where
  passes_on : (waiter : Entry) → lock.owner ≡ Some process → first_for_lock lock ≡ Some waiter → answer ≡ Answers (waiter.who ∷ []) → IsStop process lock Answers answer
  nobody_waits : lock.owner ≡ Some process → first_for_lock lock ≡ None → answer ≡ Answers [] → IsStop process lock Answers answer
  owns_nothing : ¬ (lock.owner ≡ Some process) → answer ≡ Answers [] → IsStop process lock Answers answer

-- what the caller of a service of process management or time gets, if no error condition holds; for the other services the rules of their
-- objects say it
abbrev pub IsAnswer : Configuration → List CoreState → ℕ → Who → Partition → Request → Answer → Type 0
IsAnswer configuration cores core who partition (request.Caller CallerOperation.StopSelf) answer = IsStop who.proc partition.lock never_waking answer
IsAnswer configuration cores core who partition (request.Caller (CallerOperation.SuspendSelf time_out)) answer = IsOverOrWaits (time_out ≡ pos 0) answer
IsAnswer configuration cores core who partition (request.Process process ProcessOperation.Resume) answer = IsResuming (peer who process) (created partition.table process) answer
IsAnswer configuration cores core who partition (request.Caller CallerOperation.GetMyId) answer = answer ≡ done_with (Number (pos who.proc))
IsAnswer configuration cores core who partition (request.Caller (CallerOperation.TimedWait ticks)) answer = IsOverOrWaits (ticks ≡ pos 0) answer
IsAnswer configuration cores core who partition (request.Caller CallerOperation.PeriodicWait) answer = IsOverOrWaits (IsAtRelease (time_of cores core) (item_at partition.table who.proc)) answer
IsAnswer configuration cores core who partition (request.Caller CallerOperation.GetTime) answer = answer ≡ done_with (Number (pos (time_of cores core)))
IsAnswer configuration cores core who partition (request.Caller CallerOperation.GetPartitionStatus) answer = IsPartitionStatus partition answer
IsAnswer configuration cores core who partition (request.Caller (CallerOperation.Replenish budget)) answer = answer ≡ done
IsAnswer configuration cores core who partition (request.SetPartitionMode next) answer = answer ≡ never
IsAnswer configuration cores core who partition (request.CreateProcess name priority period time_capacity) answer = answer ≡ done_with (NewNumber (is_free partition.table))
IsAnswer configuration cores core who partition (request.Process process (ProcessOperation.InitializeCoreAffinity affinity)) answer = answer ≡ done
IsAnswer configuration cores core who partition (request.Process process ProcessOperation.Start) answer = answer ≡ done
IsAnswer configuration cores core who partition (request.Process process (ProcessOperation.DelayedStart ticks)) answer = answer ≡ done
IsAnswer configuration cores core who partition (request.Process process ProcessOperation.GetStatus) answer =
    IsProcessStatus cores (peer who process) (created partition.table process) answer
IsAnswer configuration cores core who partition (request.Process process ProcessOperation.GetMutexState) answer =
    IsMutexState partition (natural_of process) answer
IsAnswer configuration cores core who partition (request.Process process ProcessOperation.Stop) answer = IsStop (natural_of process) partition.lock waking answer
IsAnswer configuration cores core who partition (request.Process process ProcessOperation.Suspend) answer = answer ≡ done
IsAnswer configuration cores core who partition (request.Process process (ProcessOperation.SetPriority priority)) answer = answer ≡ done
IsAnswer configuration cores core who partition (request.GetId of name) answer = answer ≡ done_with (number_found (number_of partition of name))
IsAnswer configuration cores core who partition (request.GetStatus of number) answer = answer ≡ telling (status_of partition of number)
IsAnswer configuration cores core who partition (request.Health operation) answer = IsHealthAnswer configuration who.part partition who.proc operation answer
IsAnswer configuration cores core who partition asked answer = answer ≡ answer_of configuration cores core who partition asked
