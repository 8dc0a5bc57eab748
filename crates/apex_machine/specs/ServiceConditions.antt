-- The error conditions of every service, by the request.
use Rattle.std.specs.Prelude.{ℕ, List, [], ◌++◌, option_map}
use Rattle.apex_types.specs.declared.record.Who.{Who}
use Rattle.apex_types.specs.declared.operation.{BlackboardOperation.BlackboardOperation, BufferOperation.BufferOperation, CallerOperation.CallerOperation, EventOperation.EventOperation, HealthOperation.HealthOperation, LockOperation.LockOperation, MutexOperation.MutexOperation, ProcessOperation.ProcessOperation, QueuingOperation.QueuingOperation, SamplingOperation.SamplingOperation, SemaphoreOperation.SemaphoreOperation}
use Rattle.apex_types.specs.declared.request.Request.{Request}
use Rattle.apex_types.specs.declared.operation.ObjectOperation.TheVariants as on
use Rattle.apex_types.specs.declared.request.Request.TheVariants as request
use Rattle.apex_machine.specs.declared.condition.Condition.{Condition}
use Rattle.apex_machine.specs.Conditions.{conditions_for, time_out_conditions, waiting_conditions}
use Rattle.apex_machine.specs.Configuration.{Configuration}
use Rattle.apex_machine.specs.Names.{get_id_conditions, number_of}
use Rattle.apex_machine.specs.CreationConditions.{create_conditions}
use Rattle.apex_machine.specs.ObjectConditions.{acquire_conditions, message_conditions, object_conditions, release_conditions, reset_conditions}
use Rattle.apex_machine.specs.PortConditions.{destination_conditions, source_conditions}
use Rattle.apex_machine.specs.ProcessConditions.{affinity_conditions, configure_handler_conditions, create_handler_conditions, create_process_conditions, delayed_start_conditions, error_status_conditions, get_my_id_conditions, lock_conditions, named_conditions, periodic_wait_conditions, raise_conditions, replenish_conditions, report_conditions, resume_conditions, set_mode_conditions, set_priority_conditions, start_conditions, stop_conditions, suspend_conditions, suspend_self_conditions, timed_wait_conditions, unlock_conditions}
use Rattle.apex_machine.specs.Statuses.{get_status_conditions}
use Rattle.apex_machine.specs.State.{Blackboard, Buffer, Partition, created, given_object}

-- the error conditions that hold for a call of this process at this time of its core; STOP_SELF, GET_TIME and GET_PARTITION_STATUS have
-- none   (section 3)
abbrev pub conditions_of : Configuration → ℕ → Who → Partition → Request → List Condition
conditions_of configuration now who partition (request.CreateProcess name priority period time_capacity) =
    create_process_conditions configuration who.part partition name priority period time_capacity
conditions_of configuration now who partition (request.Process process (ProcessOperation.InitializeCoreAffinity core)) =
    affinity_conditions configuration who.part partition process core
conditions_of configuration now who partition (request.Process process ProcessOperation.Start) = start_conditions (created partition.table process)
conditions_of configuration now who partition (request.Process process (ProcessOperation.DelayedStart delay)) = delayed_start_conditions (created partition.table process) delay
conditions_of configuration now who partition (request.Process process ProcessOperation.Stop) = stop_conditions who (created partition.table process) process
conditions_of configuration now who partition (request.Caller CallerOperation.StopSelf) = []
conditions_of configuration now who partition (request.Process process ProcessOperation.Suspend) = suspend_conditions who partition process
conditions_of configuration now who partition (request.Caller (CallerOperation.SuspendSelf time_out)) = suspend_self_conditions who partition time_out
conditions_of configuration now who partition (request.Process process ProcessOperation.Resume) = resume_conditions who (created partition.table process) process
conditions_of configuration now who partition (request.Process process (ProcessOperation.SetPriority priority)) = set_priority_conditions (created partition.table process) priority
conditions_of configuration now who partition (request.Process process ProcessOperation.GetStatus) = named_conditions (created partition.table process)
conditions_of configuration now who partition (request.Process process ProcessOperation.GetMutexState) = named_conditions (created partition.table process)
conditions_of configuration now who partition (request.Caller CallerOperation.GetMyId) = get_my_id_conditions who
conditions_of configuration now who partition (request.Caller (CallerOperation.TimedWait delay)) = timed_wait_conditions who partition delay
conditions_of configuration now who partition (request.Caller CallerOperation.PeriodicWait) = periodic_wait_conditions who partition
conditions_of configuration now who partition (request.Caller CallerOperation.GetTime) = []
conditions_of configuration now who partition (request.Caller CallerOperation.GetPartitionStatus) = []
conditions_of configuration now who partition (request.Caller (CallerOperation.Replenish budget)) = replenish_conditions now who partition budget
conditions_of configuration now who partition (request.SetPartitionMode mode) = set_mode_conditions partition.mode mode
conditions_of configuration now who partition (request.Create name object) = create_conditions configuration who.part partition name object
conditions_of configuration now who partition (request.Object buffer (on.Buffer (BufferOperation.Send length time_out message))) =
    message_conditions (option_map (λ (found : Buffer). found.size) (given_object partition.buffers buffer)) length
    ++ time_out_conditions time_out ++ waiting_conditions who partition time_out
conditions_of configuration now who partition (request.Object buffer (on.Buffer (BufferOperation.Receive time_out))) =
    object_conditions who partition (given_object partition.buffers buffer) time_out
conditions_of configuration now who partition (request.Object blackboard (on.Blackboard (BlackboardOperation.Display length message))) =
    message_conditions (option_map (λ (found : Blackboard). found.size) (given_object partition.blackboards blackboard)) length
conditions_of configuration now who partition (request.Object blackboard (on.Blackboard (BlackboardOperation.Read time_out))) =
    object_conditions who partition (given_object partition.blackboards blackboard) time_out
conditions_of configuration now who partition (request.Object blackboard (on.Blackboard BlackboardOperation.Clear)) =
    conditions_for (given_object partition.blackboards blackboard) (λ found. [])
conditions_of configuration now who partition (request.Object semaphore (on.Semaphore (SemaphoreOperation.Wait time_out))) =
    object_conditions who partition (given_object partition.semaphores semaphore) time_out
conditions_of configuration now who partition (request.Object semaphore (on.Semaphore SemaphoreOperation.Signal)) =
    conditions_for (given_object partition.semaphores semaphore) (λ found. [])
conditions_of configuration now who partition (request.Object event (on.Event EventOperation.Set)) = conditions_for (given_object partition.events event) (λ found. [])
conditions_of configuration now who partition (request.Object event (on.Event EventOperation.Reset)) = conditions_for (given_object partition.events event) (λ found. [])
conditions_of configuration now who partition (request.Object event (on.Event (EventOperation.Wait time_out))) =
    object_conditions who partition (given_object partition.events event) time_out
conditions_of configuration now who partition (request.Object mutex (on.Mutex (MutexOperation.Acquire time_out))) = acquire_conditions who partition mutex time_out
conditions_of configuration now who partition (request.Object mutex (on.Mutex MutexOperation.Release)) = release_conditions who (given_object partition.mutexes mutex)
conditions_of configuration now who partition (request.Object mutex (on.Mutex (MutexOperation.Reset process))) = reset_conditions partition mutex process
conditions_of configuration now who partition (request.SamplingPort port (SamplingOperation.Write length message)) =
    source_conditions (given_object partition.sampling_ports port) length
conditions_of configuration now who partition (request.SamplingPort port SamplingOperation.Read) = destination_conditions (given_object partition.sampling_ports port)
conditions_of configuration now who partition (request.QueuingPort port (QueuingOperation.Send length time_out message)) =
    source_conditions (given_object partition.queuing_ports port) length ++ time_out_conditions time_out ++ waiting_conditions who partition time_out
conditions_of configuration now who partition (request.QueuingPort port (QueuingOperation.Receive time_out)) =
    destination_conditions (given_object partition.queuing_ports port) ++ time_out_conditions time_out ++ waiting_conditions who partition time_out
conditions_of configuration now who partition (request.QueuingPort port QueuingOperation.Clear) = destination_conditions (given_object partition.queuing_ports port)
conditions_of configuration now who partition (request.GetId kind name) = get_id_conditions (number_of partition kind name)
conditions_of configuration now who partition (request.GetStatus kind object) = get_status_conditions partition kind object
conditions_of configuration now who partition (request.Health (HealthOperation.ReportMessage length message)) = report_conditions length
conditions_of configuration now who partition (request.Health HealthOperation.CreateHandler) = create_handler_conditions partition
conditions_of configuration now who partition (request.Health (HealthOperation.ConfigureHandler concurrency core)) =
    configure_handler_conditions configuration who.part partition concurrency core
conditions_of configuration now who partition (request.Health (HealthOperation.RaiseError error length message)) = raise_conditions error length
conditions_of configuration now who partition (request.Health HealthOperation.GetErrorStatus) = error_status_conditions who partition
conditions_of configuration now who partition (request.Preemption LockOperation.Lock) = lock_conditions who partition
conditions_of configuration now who partition (request.Preemption LockOperation.Unlock) = unlock_conditions who partition
