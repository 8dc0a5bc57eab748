-- Worked facts on the error conditions and the profile: calls in a partition that has one object of each kind.
use Rattle.std.specs.Prelude.{◌≡◌, ℕ, List, [], ◌∷◌, true, false, pos, negsuc, codes}
use Rattle.apex_types.specs.declared.discipline.Discipline.TheVariants as discipline
use Rattle.apex_types.specs.declared.object_kind.NamedKind.TheVariants as named
use Rattle.apex_types.specs.declared.record.Who.{Who}
use Rattle.apex_types.specs.declared.operation.{BlackboardOperation.BlackboardOperation, BufferOperation.BufferOperation, CallerOperation.CallerOperation, EventOperation.EventOperation, HealthOperation.HealthOperation, LockOperation.LockOperation, MutexOperation.MutexOperation, NewObject.NewObject, ProcessOperation.ProcessOperation, QueuingOperation.QueuingOperation, SamplingOperation.SamplingOperation, SemaphoreOperation.SemaphoreOperation}
use Rattle.apex_types.specs.declared.request.Request.{Request}
use Rattle.apex_types.specs.declared.operation.ObjectOperation.TheVariants as on
use Rattle.apex_types.specs.declared.request.Request.TheVariants as request
use Rattle.apex_machine.specs.declared.condition.Condition.{Condition}
use Rattle.apex_machine.specs.declared.condition.Condition.TheVariants as condition
use Rattle.apex_machine.specs.Channels.{receiving_discipline, sending_discipline}
use Rattle.apex_machine.specs.Configuration.{Configuration}
use Rattle.apex_machine.specs.Services.{in_profile}
use Rattle.apex_machine.specs.State.{State, cold_state}
use Rattle.apex_machine.specs.DueTimes.{falls_due}
use Rattle.apex_laws.specs.Worked.{aperiodic, at, conditions_met, creates, does, normal, one_partition, play, played, process_of, queuing_by, start, ticks, two_partitions, waits}
use Rattle.apex_laws.specs.WorkedFacts.{connected, one, semaphore, there, three_processes, two}

-- the initialising process
abbrev pub initialiser : Who
initialiser = process_of 0 0

-- the initialising process at work: aperiodic process 1 (10), process 2 (20) of period 20, process 3 (60), and one object of
-- each kind
abbrev pub furnished : State
furnished = played one_partition (aperiodic 0 (codes "A") (pos 1) (pos 10)
    ∷ creates 0 (request.CreateProcess (codes "B") (pos 20) (pos 20) (negsuc 0)) (pos 2)
    ∷ aperiodic 0 (codes "C") (pos 3) (pos 60)
    ∷ creates 0 (request.Create (codes "Q") (NewObject.Buffer (pos 4) (pos 1) (pos 0))) (pos 1)
    ∷ creates 0 (request.Create (codes "N") (NewObject.Blackboard (pos 4))) (pos 1)
    ∷ creates 0 (request.Create (codes "S") (NewObject.Semaphore (pos 0) (pos 1) (pos 0))) (pos 1)
    ∷ creates 0 (request.Create (codes "E") NewObject.Event) (pos 1)
    ∷ creates 0 (request.Create (codes "M") (NewObject.Mutex (pos 50) (pos 0))) (pos 1) ∷ [])

-- processes 1 and 2 are started, and the partition is in NORMAL
abbrev pub at_work : State
at_work = play one_partition furnished (start 0 (pos 1) ∷ start 0 (pos 2) ∷ normal 0 ∷ [])

-- the initialising process has created an error handler
abbrev pub with_handler : State
with_handler = play one_partition furnished (does initialiser (request.Health HealthOperation.CreateHandler) ∷ [])

-- process 1 has raised an error, which the handler is to take
abbrev pub in_error : State
in_error = play one_partition with_handler (start 0 (pos 1) ∷ start 0 (pos 2) ∷ normal 0
    ∷ does one (request.Health (HealthOperation.RaiseError (pos 1) (pos 2) (7 ∷ 8 ∷ []))) ∷ [])

-- process 1 owns the mutex
abbrev pub owning : State
owning = play one_partition at_work (does one (request.Object (pos 1) (on.Mutex (MutexOperation.Acquire (pos 0)))) ∷ [])

-- process 1 owns the lock
abbrev pub locking : State
locking = play one_partition at_work (does one (request.Preemption LockOperation.Lock) ∷ [])

-- process 1 suspended itself
abbrev pub asleep : State
asleep = play one_partition at_work (waits one 10 (request.Caller (CallerOperation.SuspendSelf (negsuc 0))) ∷ [])

-- process 1 owns the mutex, and process 2 waits for it
abbrev pub wanting : State
wanting = play one_partition owning (waits two 20 (request.Object (pos 1) (on.Mutex (MutexOperation.Acquire (negsuc 0)))) ∷ [])

-- the error conditions that hold for a call in this partition
abbrev pub conditions_shown : State → Who → Request → List Condition
conditions_shown state who asked = conditions_met one_partition state who asked

-- the error conditions that hold for the creation of a port, before any other creation
abbrev pub conditions_at_first : ℕ → Request → List Condition
conditions_at_first partition asked = conditions_met two_partitions (cold_state two_partitions) (process_of partition 0) asked

-- the error conditions that hold for a call through a port
abbrev pub reported_there : Who → Request → List Condition
reported_there who asked = conditions_met two_partitions connected who asked

-- the channel's receivers wait by priority, its senders first in, first out
abbrev pub by_ends : Configuration
by_ends = record two_partitions { queuing = queuing_by discipline.Priority ∷ [] }

-- process 1 waits from time 2 on, with a time-out of 3
abbrev pub waits_later : State
waits_later = play one_partition (three_processes (semaphore (pos 0) (pos 1) (pos 0))) (ticks 0 [] ∷ ticks 0 [] ∷ waits one 10 (request.Object (pos 1) (on.Semaphore (SemaphoreOperation.Wait (pos 3)))) ∷ [])

-- each of them is computed
pub record ConditionFacts : Type 0 where
  -- CREATE_PROCESS
  pub may_create : conditions_shown furnished initialiser (request.CreateProcess (codes "D") (pos 239) (pos 30) (negsuc 0)) ≡ []
  pub name_taken : conditions_shown furnished initialiser (request.CreateProcess (codes "A") (pos 10) (negsuc 0) (negsuc 0)) ≡ condition.NameTaken ∷ []
  pub no_priority : conditions_shown furnished initialiser (request.CreateProcess (codes "D") (pos 240) (negsuc 0) (negsuc 0)) ≡ condition.PriorityOutOfRange ∷ []
  pub no_period : conditions_shown furnished initialiser (request.CreateProcess (codes "D") (pos 10) (negsuc 1) (negsuc 0)) ≡ condition.PeriodOutOfRange ∷ []
  pub no_multiple : conditions_shown furnished initialiser (request.CreateProcess (codes "D") (pos 10) (pos 15) (negsuc 0)) ≡ condition.PeriodNotMultiple ∷ []
  pub no_creation_in_normal : conditions_shown at_work one (request.CreateProcess (codes "D") (pos 10) (negsuc 0) (negsuc 0)) ≡ condition.InNormal ∷ []
  pub no_more_processes : conditions_shown (play one_partition furnished (aperiodic 0 (codes "D") (pos 4) (pos 10) ∷ [])) initialiser (request.CreateProcess (codes "F") (pos 10) (negsuc 0) (negsuc 0)) ≡ condition.AllCreated ∷ []
  pub no_capacity : conditions_shown furnished initialiser (request.CreateProcess (codes "D") (pos 10) (negsuc 0) (pos 0)) ≡ condition.TimeCapacityOutOfRange ∷ []
  pub may_have_capacity : conditions_shown furnished initialiser (request.CreateProcess (codes "D") (pos 10) (pos 30) (pos 30)) ≡ []
  pub above_its_period : conditions_shown furnished initialiser (request.CreateProcess (codes "D") (pos 10) (pos 30) (pos 31)) ≡ condition.TimeCapacityAbovePeriod ∷ []
  -- INITIALIZE_PROCESS_CORE_AFFINITY
  pub may_move : conditions_shown furnished initialiser (request.Process (pos 1) (ProcessOperation.InitializeCoreAffinity (pos 0))) ≡ []
  pub not_its_core : conditions_shown furnished initialiser (request.Process (pos 1) (ProcessOperation.InitializeCoreAffinity (pos 1))) ≡ condition.CoreNotOfPartition ∷ []
  pub no_move_in_normal : conditions_shown at_work one (request.Process (pos 1) (ProcessOperation.InitializeCoreAffinity (pos 0))) ≡ condition.InNormal ∷ []
  -- START, STOP
  pub may_start : conditions_shown at_work one (request.Process (pos 3) ProcessOperation.Start) ≡ []
  pub not_dormant : conditions_shown at_work one (request.Process (pos 2) ProcessOperation.Start) ≡ condition.AlreadyStarted ∷ []
  pub not_created : conditions_shown at_work one (request.Process (pos 4) ProcessOperation.Start) ≡ condition.NotCreated ∷ []
  pub nobodys_start : conditions_shown at_work one (request.Process (pos 0) ProcessOperation.Start) ≡ condition.NotCreated ∷ []
  pub may_start_later : conditions_shown at_work one (request.Process (pos 3) (ProcessOperation.DelayedStart (pos 100))) ≡ []
  pub not_dormant_later : conditions_shown at_work one (request.Process (pos 1) (ProcessOperation.DelayedStart (pos 0))) ≡ condition.AlreadyStarted ∷ []
  pub no_start_delay : conditions_shown at_work one (request.Process (pos 3) (ProcessOperation.DelayedStart (negsuc 0))) ≡ condition.DelayOutOfRange ∷ []
  pub below_its_period : conditions_shown furnished initialiser (request.Process (pos 2) (ProcessOperation.DelayedStart (pos 19))) ≡ []
  pub reaches_its_period : conditions_shown furnished initialiser (request.Process (pos 2) (ProcessOperation.DelayedStart (pos 20))) ≡ condition.DelayNotBelowPeriod ∷ []
  pub may_stop : conditions_shown at_work one (request.Process (pos 2) ProcessOperation.Stop) ≡ []
  pub stops_none : conditions_shown at_work one (request.Process (pos 3) ProcessOperation.Stop) ≡ condition.AlreadyDormant ∷ []
  pub stops_itself : conditions_shown at_work one (request.Process (pos 1) ProcessOperation.Stop) ≡ condition.NamesItself ∷ []
  -- SUSPEND, RESUME, SUSPEND_SELF
  pub may_suspend : conditions_shown at_work two (request.Process (pos 1) ProcessOperation.Suspend) ≡ []
  pub no_periodic_one : conditions_shown at_work one (request.Process (pos 2) ProcessOperation.Suspend) ≡ condition.Periodic ∷ []
  pub no_dormant_one : conditions_shown at_work one (request.Process (pos 3) ProcessOperation.Suspend) ≡ condition.Dormant ∷ []
  pub dormant_and_periodic : conditions_shown furnished initialiser (request.Process (pos 2) ProcessOperation.Suspend) ≡ condition.Dormant ∷ condition.Periodic ∷ []
  pub suspended_already : conditions_shown asleep two (request.Process (pos 1) ProcessOperation.Suspend) ≡ condition.AlreadySuspended ∷ []
  pub may_resume : conditions_shown asleep two (request.Process (pos 1) ProcessOperation.Resume) ≡ []
  pub not_suspended : conditions_shown at_work two (request.Process (pos 1) ProcessOperation.Resume) ≡ condition.NotSuspended ∷ []
  pub resumes_dormant : conditions_shown at_work one (request.Process (pos 3) ProcessOperation.Resume) ≡ condition.Dormant ∷ []
  pub may_sleep : conditions_shown at_work one (request.Caller (CallerOperation.SuspendSelf (negsuc 0))) ≡ []
  pub periodic_stays : conditions_shown at_work two (request.Caller (CallerOperation.SuspendSelf (negsuc 0))) ≡ condition.PeriodicCaller ∷ []
  pub owner_stays : conditions_shown owning one (request.Caller (CallerOperation.SuspendSelf (negsuc 0))) ≡ condition.MayNotWait ∷ []
  pub no_time_out : conditions_shown at_work one (request.Caller (CallerOperation.SuspendSelf (negsuc 1))) ≡ condition.TimeOutOutOfRange ∷ []
  -- SET_PRIORITY, GET_MY_ID
  pub may_set : conditions_shown at_work one (request.Process (pos 2) (ProcessOperation.SetPriority (pos 1))) ≡ []
  pub sets_dormant : conditions_shown at_work one (request.Process (pos 3) (ProcessOperation.SetPriority (pos 1))) ≡ condition.Dormant ∷ []
  pub sets_no_priority : conditions_shown at_work one (request.Process (pos 2) (ProcessOperation.SetPriority (pos 0))) ≡ condition.PriorityOutOfRange ∷ []
  pub has_no_id : conditions_shown furnished initialiser (request.Caller CallerOperation.GetMyId) ≡ condition.InitialisingCaller ∷ []
  pub has_an_id : conditions_shown at_work one (request.Caller CallerOperation.GetMyId) ≡ []
  -- TIMED_WAIT, PERIODIC_WAIT
  pub no_delay : conditions_shown at_work one (request.Caller (CallerOperation.TimedWait (negsuc 0))) ≡ condition.DelayOutOfRange ∷ []
  pub initialiser_goes_on : conditions_shown furnished initialiser (request.Caller (CallerOperation.TimedWait (pos 1))) ≡ condition.MayNotWait ∷ []
  pub owner_goes_on : conditions_shown owning one (request.Caller (CallerOperation.TimedWait (pos 1))) ≡ condition.MayNotWait ∷ []
  pub no_period_to_wait : conditions_shown at_work one (request.Caller CallerOperation.PeriodicWait) ≡ condition.AperiodicCaller ∷ []
  pub waits_for_its_period : conditions_shown at_work two (request.Caller CallerOperation.PeriodicWait) ≡ []
  -- SET_PARTITION_MODE
  pub may_be_normal : conditions_shown furnished initialiser (request.SetPartitionMode (pos 3)) ≡ []
  pub is_normal_already : conditions_shown at_work one (request.SetPartitionMode (pos 3)) ≡ condition.AlreadyNormal ∷ []
  pub no_mode : conditions_shown at_work one (request.SetPartitionMode (pos 4)) ≡ condition.ModeOutOfRange ∷ []
  pub no_warm_start_in_cold_start : conditions_shown furnished initialiser (request.SetPartitionMode (pos 2)) ≡ condition.WarmStartInColdStart ∷ []
  pub may_start_warm : conditions_shown at_work one (request.SetPartitionMode (pos 2)) ≡ []
  pub may_start_cold : conditions_shown furnished initialiser (request.SetPartitionMode (pos 1)) ≡ []
  -- buffers, blackboards
  pub may_create_buffer : conditions_shown furnished initialiser (request.Create (codes "R") (NewObject.Buffer (pos 4) (pos 1) (pos 1))) ≡ []
  pub buffer_of_nothing : conditions_shown furnished initialiser (request.Create (codes "R") (NewObject.Buffer (pos 0) (pos 1) (pos 0))) ≡ condition.SizeOutOfRange ∷ []
  pub no_discipline : conditions_shown furnished initialiser (request.Create (codes "R") (NewObject.Buffer (pos 4) (pos 1) (pos 2))) ≡ condition.DisciplineOutOfRange ∷ []
  pub may_send : conditions_shown at_work one (request.Object (pos 1) (on.Buffer (BufferOperation.Send (pos 4) (negsuc 0) (1 ∷ 2 ∷ 3 ∷ 4 ∷ [])))) ≡ []
  pub too_long : conditions_shown at_work one (request.Object (pos 1) (on.Buffer (BufferOperation.Send (pos 5) (negsuc 0) (1 ∷ 2 ∷ 3 ∷ 4 ∷ 5 ∷ [])))) ≡ condition.LongerThanObject ∷ []
  pub no_buffer : conditions_shown at_work one (request.Object (pos 2) (on.Buffer (BufferOperation.Receive (pos 0)))) ≡ condition.NotCreated ∷ []
  pub owner_may_not_wait : conditions_shown owning one (request.Object (pos 1) (on.Buffer (BufferOperation.Receive (pos 5)))) ≡ condition.MayNotWait ∷ []
  pub owner_may_look : conditions_shown owning one (request.Object (pos 1) (on.Buffer (BufferOperation.Receive (pos 0)))) ≡ []
  pub no_more_blackboards : conditions_shown furnished initialiser (request.Create (codes "O") (NewObject.Blackboard (pos 4))) ≡ condition.AllCreated ∷ []
  pub too_long_to_display : conditions_shown at_work one (request.Object (pos 1) (on.Blackboard (BlackboardOperation.Display (pos 5) (1 ∷ 2 ∷ 3 ∷ 4 ∷ 5 ∷ [])))) ≡ condition.LongerThanObject ∷ []
  pub initialiser_may_not_read : conditions_shown furnished initialiser (request.Object (pos 1) (on.Blackboard (BlackboardOperation.Read (negsuc 0)))) ≡ condition.MayNotWait ∷ []
  -- semaphores, events
  pub above_maximum : conditions_shown (cold_state one_partition) initialiser (request.Create (codes "S") (NewObject.Semaphore (pos 2) (pos 1) (pos 0))) ≡ condition.ValueOutOfRange ∷ []
  pub waits_wrongly : conditions_shown at_work one (request.Object (pos 1) (on.Semaphore (SemaphoreOperation.Wait (negsuc 1)))) ≡ condition.TimeOutOutOfRange ∷ []
  pub no_semaphore : conditions_shown at_work one (request.Object (pos 2) (on.Semaphore SemaphoreOperation.Signal)) ≡ condition.NotCreated ∷ []
  pub no_event : conditions_shown at_work one (request.Object (negsuc 0) (on.Event EventOperation.Set)) ≡ condition.NotCreated ∷ []
  pub owner_awaits_no_event : conditions_shown owning one (request.Object (pos 1) (on.Event (EventOperation.Wait (negsuc 0)))) ≡ condition.MayNotWait ∷ []
  -- mutexes
  pub may_acquire : conditions_shown at_work one (request.Object (pos 1) (on.Mutex (MutexOperation.Acquire (negsuc 0)))) ≡ []
  pub may_acquire_again : conditions_shown owning one (request.Object (pos 1) (on.Mutex (MutexOperation.Acquire (negsuc 0)))) ≡ []
  pub too_high : conditions_shown (play one_partition at_work (does one (request.Process (pos 2) (ProcessOperation.SetPriority (pos 60))) ∷ [])) two (request.Object (pos 1) (on.Mutex (MutexOperation.Acquire (pos 0)))) ≡ condition.AboveCeiling ∷ []
  pub initialiser_owns_none : conditions_shown furnished initialiser (request.Object (pos 1) (on.Mutex (MutexOperation.Acquire (pos 0)))) ≡ condition.InitialisingCaller ∷ []
  pub may_release : conditions_shown owning one (request.Object (pos 1) (on.Mutex MutexOperation.Release)) ≡ []
  pub not_the_owner : conditions_shown owning two (request.Object (pos 1) (on.Mutex MutexOperation.Release)) ≡ condition.NotOwner ∷ []
  pub may_reset : conditions_shown owning two (request.Object (pos 1) (on.Mutex (MutexOperation.Reset (pos 1)))) ≡ []
  pub resets_no_owner : conditions_shown owning one (request.Object (pos 1) (on.Mutex (MutexOperation.Reset (pos 2)))) ≡ condition.ProcessNotOwner ∷ []
  pub resets_nobody : conditions_shown owning one (request.Object (pos 1) (on.Mutex (MutexOperation.Reset (pos 4)))) ≡ condition.NoSuchProcess ∷ []
  pub resets_nothing : conditions_shown owning one (request.Object (pos 2) (on.Mutex (MutexOperation.Reset (pos 0)))) ≡ condition.NotCreated ∷ condition.NoSuchProcess ∷ []
  -- the lock
  pub may_lock : conditions_shown at_work one (request.Preemption LockOperation.Lock) ≡ []
  pub may_lock_again : conditions_shown locking one (request.Preemption LockOperation.Lock) ≡ []
  pub may_wait_to_lock : conditions_shown locking two (request.Preemption LockOperation.Lock) ≡ []
  pub no_lock_before_normal : conditions_shown furnished initialiser (request.Preemption LockOperation.Lock) ≡ condition.NotNormal ∷ condition.NotForInitialising ∷ []
  pub mutex_owner_may_not_lock : conditions_shown owning one (request.Preemption LockOperation.Lock) ≡ condition.OwnsMutex ∷ []
  pub may_unlock : conditions_shown locking one (request.Preemption LockOperation.Unlock) ≡ []
  pub not_the_lock_owner : conditions_shown locking two (request.Preemption LockOperation.Unlock) ≡ condition.NotLockOwner ∷ []
  pub lock_owner_goes_on : conditions_shown locking one (request.Caller (CallerOperation.TimedWait (pos 1))) ≡ condition.MayNotWait ∷ []
  pub lock_owner_acquires_none : conditions_shown locking one (request.Object (pos 1) (on.Mutex (MutexOperation.Acquire (pos 0)))) ≡ condition.OwnsLock ∷ []
  pub lock_owner_is_not_suspended : conditions_shown locking two (request.Process (pos 1) ProcessOperation.Suspend) ≡ condition.ProcessOwnsLock ∷ []
  -- budgets: process 2 is periodic, and its next release is at 20
  pub may_replenish : conditions_shown at_work one (request.Caller (CallerOperation.Replenish (pos 30))) ≡ []
  pub no_replenishing_before_normal : conditions_shown furnished initialiser (request.Caller (CallerOperation.Replenish (pos 5))) ≡ condition.NotNormal ∷ condition.NotForInitialising ∷ []
  pub no_budget : conditions_shown at_work one (request.Caller (CallerOperation.Replenish (pos 0))) ≡ condition.BudgetOutOfRange ∷ []
  pub budget_until_release : conditions_shown at_work two (request.Caller (CallerOperation.Replenish (pos 20))) ≡ []
  pub budget_beyond_release : conditions_shown at_work two (request.Caller (CallerOperation.Replenish (pos 21))) ≡ condition.BudgetAboveRelease ∷ []
  pub budget_without_end : conditions_shown at_work two (request.Caller (CallerOperation.Replenish (negsuc 0))) ≡ condition.BudgetAboveRelease ∷ []
  pub budget_below : conditions_shown at_work two (request.Caller (CallerOperation.Replenish (negsuc 4))) ≡ condition.BudgetOutOfRange ∷ []
  -- names, reports and the error handler
  pub no_such_process : conditions_shown at_work one (request.GetId named.Process (codes "D")) ≡ condition.NoSuchName ∷ []
  pub may_report_nothing : conditions_shown at_work one (request.Health (HealthOperation.ReportMessage (pos 0) [])) ≡ []
  pub reports_too_much : conditions_shown at_work one (request.Health (HealthOperation.ReportMessage (pos 129) [])) ≡ condition.LengthOutOfRange ∷ []
  pub may_have_handler : conditions_shown furnished initialiser (request.Health HealthOperation.CreateHandler) ≡ []
  pub no_handler_in_normal : conditions_shown at_work one (request.Health HealthOperation.CreateHandler) ≡ condition.InNormal ∷ []
  pub one_handler : conditions_shown with_handler initialiser (request.Health HealthOperation.CreateHandler) ≡ condition.HandlerCreated ∷ []
  pub may_configure_handler : conditions_shown with_handler initialiser (request.Health (HealthOperation.ConfigureHandler (pos 1) (pos 0))) ≡ []
  pub no_handler_to_configure : conditions_shown furnished initialiser (request.Health (HealthOperation.ConfigureHandler (pos 0) (pos 0))) ≡ condition.NoHandler ∷ []
  pub no_concurrency : conditions_shown with_handler initialiser (request.Health (HealthOperation.ConfigureHandler (pos 2) (pos 0))) ≡ condition.ConcurrencyOutOfRange ∷ []
  pub concurrency_below : conditions_shown with_handler initialiser (request.Health (HealthOperation.ConfigureHandler (negsuc 0) (pos 0))) ≡ condition.ConcurrencyOutOfRange ∷ []
  pub core_of_no_partition : conditions_shown with_handler initialiser (request.Health (HealthOperation.ConfigureHandler (pos 0) (pos 1))) ≡ condition.HandlerCoreNotOfPartition ∷ []
  pub not_configured_in_normal : conditions_shown in_error two (request.Health (HealthOperation.ConfigureHandler (pos 0) (pos 0))) ≡ condition.InNormal ∷ []
  -- errors that are raised and taken: in NORMAL, process 0 is the handler
  pub may_raise : conditions_shown at_work one (request.Health (HealthOperation.RaiseError (pos 1) (pos 0) [])) ≡ []
  pub raises_another : conditions_shown at_work one (request.Health (HealthOperation.RaiseError (pos 2) (pos 0) [])) ≡ condition.ErrorNotOfApplication ∷ []
  pub raises_too_much : conditions_shown at_work one (request.Health (HealthOperation.RaiseError (pos 1) (pos 129) [])) ≡ condition.LengthOutOfRange ∷ []
  pub may_take_error : conditions_shown in_error initialiser (request.Health HealthOperation.GetErrorStatus) ≡ []
  pub no_error_is_left : conditions_shown (play one_partition with_handler (normal 0 ∷ [])) initialiser (request.Health HealthOperation.GetErrorStatus) ≡ condition.NoErrorListed ∷ []
  pub others_take_none : conditions_shown in_error two (request.Health HealthOperation.GetErrorStatus) ≡ condition.NotHandler ∷ []
  -- ports
  pub sampling_as_configured : conditions_at_first 1 (request.Create (codes "S") (NewObject.SamplingPort (pos 4) (pos 1) (pos 5))) ≡ []
  pub other_refresh : conditions_at_first 1 (request.Create (codes "S") (NewObject.SamplingPort (pos 4) (pos 1) (pos 6))) ≡ condition.NotAsConfigured ∷ []
  pub any_refresh_at_source : conditions_at_first 0 (request.Create (codes "S") (NewObject.SamplingPort (pos 4) (pos 0) (pos 6))) ≡ []
  pub other_direction : conditions_at_first 0 (request.Create (codes "S") (NewObject.SamplingPort (pos 4) (pos 1) (pos 5))) ≡ condition.NotAsConfigured ∷ []
  pub no_port_of_that_name : conditions_at_first 0 (request.Create (codes "Q") (NewObject.SamplingPort (pos 4) (pos 0) (pos 5))) ≡ condition.NotAsConfigured ∷ []
  pub queuing_as_configured : conditions_at_first 1 (request.Create (codes "Q") (NewObject.QueuingPort (pos 4) (pos 1) (pos 1) (pos 0))) ≡ []
  pub other_discipline : conditions_at_first 1 (request.Create (codes "Q") (NewObject.QueuingPort (pos 4) (pos 1) (pos 1) (pos 1))) ≡ condition.NotAsConfigured ∷ []
  pub other_capacity : conditions_at_first 0 (request.Create (codes "Q") (NewObject.QueuingPort (pos 4) (pos 2) (pos 0) (pos 0))) ≡ condition.NotAsConfigured ∷ []
  pub may_write : reported_there one (request.SamplingPort (pos 1) (SamplingOperation.Write (pos 1) (1 ∷ []))) ≡ []
  pub writes_no_destination : reported_there there (request.SamplingPort (pos 1) (SamplingOperation.Write (pos 1) (1 ∷ []))) ≡ condition.NotSource ∷ []
  pub writes_too_long : reported_there one (request.SamplingPort (pos 1) (SamplingOperation.Write (pos 5) (1 ∷ 2 ∷ 3 ∷ 4 ∷ 5 ∷ []))) ≡ condition.LongerThanPort ∷ []
  pub reads_no_source : reported_there one (request.SamplingPort (pos 1) SamplingOperation.Read) ≡ condition.NotDestination ∷ []
  pub may_read : reported_there there (request.SamplingPort (pos 1) SamplingOperation.Read) ≡ []
  pub sends_to_no_destination : reported_there there (request.QueuingPort (pos 1) (QueuingOperation.Send (pos 1) (pos 0) (1 ∷ []))) ≡ condition.NotSource ∷ []
  pub receives_from_no_source : reported_there one (request.QueuingPort (pos 1) (QueuingOperation.Receive (pos 0))) ≡ condition.NotDestination ∷ []
  pub clears_no_source : reported_there one (request.QueuingPort (pos 1) QueuingOperation.Clear) ≡ condition.NotDestination ∷ []
  pub may_clear : reported_there there (request.QueuingPort (pos 1) QueuingOperation.Clear) ≡ []
  pub no_port : reported_there one (request.QueuingPort (pos 2) (QueuingOperation.Receive (pos 0))) ≡ condition.NotCreated ∷ []
  -- the disciplines of a channel's ends
  pub senders_by_source : sending_discipline by_ends 0 ≡ discipline.Fifo
  pub receivers_by_destination : receiving_discipline by_ends 0 ≡ discipline.Priority
  -- a time-out counts from the call
  pub not_yet_due : falls_due 0 4 (at waits_later one) ≡ false
  pub due_then : falls_due 0 5 (at waits_later one) ≡ true
  -- inside and outside the profile
  pub may_be_suspended : in_profile two (at_work.partitions 0) (request.Process (pos 1) ProcessOperation.Suspend) ≡ true
  pub owner_is_not_suspended : in_profile two (owning.partitions 0) (request.Process (pos 1) ProcessOperation.Suspend) ≡ false
  pub owner_keeps_its_priority : in_profile two (owning.partitions 0) (request.Process (pos 1) (ProcessOperation.SetPriority (pos 5))) ≡ false
  pub who_wants_it_too : in_profile one (wanting.partitions 0) (request.Process (pos 2) (ProcessOperation.SetPriority (pos 5))) ≡ false
  pub owner_is_not_stopped : in_profile two (owning.partitions 0) (request.Process (pos 1) ProcessOperation.Stop) ≡ false
  pub who_wants_it_may_be_stopped : in_profile one (wanting.partitions 0) (request.Process (pos 2) ProcessOperation.Stop) ≡ true
  pub initialiser_stays : in_profile initialiser (furnished.partitions 0) (request.Caller CallerOperation.StopSelf) ≡ false
  pub handler_may_stop_itself : in_profile initialiser (in_error.partitions 0) (request.Caller CallerOperation.StopSelf) ≡ true
  pub may_stop_itself : in_profile one (at_work.partitions 0) (request.Caller CallerOperation.StopSelf) ≡ true
  pub restart_is_inside : in_profile one (at_work.partitions 0) (request.SetPartitionMode (pos 2)) ≡ true
  pub normal_mode : in_profile initialiser (furnished.partitions 0) (request.SetPartitionMode (pos 3)) ≡ true
  pub aperiodic_is_inside : in_profile initialiser (furnished.partitions 0) (request.CreateProcess (codes "D") (pos 10) (negsuc 0) (negsuc 0)) ≡ true
  pub periodic_is_inside : in_profile initialiser (furnished.partitions 0) (request.CreateProcess (codes "D") (pos 10) (pos 20) (negsuc 0)) ≡ true
