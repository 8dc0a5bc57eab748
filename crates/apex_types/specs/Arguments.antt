-- The request that a service and the values of a call's arguments make.
use Rattle.std.specs.Prelude.{ℕ, ℤ, pos, ◌≡◌, ◌⊎◌, ◌+ℤ◌, ◌*ℤ◌, List}
use Rattle.std.specs.Int.{int_div_euclid, int_rem_euclid}
use Rattle.apex_types.specs.declared.service.Service.{Service}
use Rattle.apex_types.specs.declared.service.Service.TheVariants as service
use Rattle.apex_types.specs.declared.object_kind.NamedKind.TheVariants as named
use Rattle.apex_types.specs.declared.object_kind.ObjectKind.TheVariants as kind
use Rattle.apex_types.specs.declared.operation.{BlackboardOperation.BlackboardOperation, BufferOperation.BufferOperation, CallerOperation.CallerOperation, EventOperation.EventOperation, HealthOperation.HealthOperation, LockOperation.LockOperation, MutexOperation.MutexOperation, NewObject.NewObject, ProcessOperation.ProcessOperation, QueuingOperation.QueuingOperation, SamplingOperation.SamplingOperation, SemaphoreOperation.SemaphoreOperation}
use Rattle.apex_types.specs.declared.request.Request.{Request}
use Rattle.apex_types.specs.declared.operation.ObjectOperation.TheVariants as on
use Rattle.apex_types.specs.declared.request.Request.TheVariants as request

-- the direction in the third number of CREATE_QUEUING_PORT: the number's remainder by 2
abbrev pub direction_in : ℤ → ℤ
direction_in number = int_rem_euclid number (pos 2)

-- the discipline in it: half of the number, rounded down
abbrev pub discipline_in : ℤ → ℤ
discipline_in number = int_div_euclid number (pos 2)

-- the number is the direction, 0 or 1, plus twice the discipline
abbrev pub DirectionAndDisciplineAreOneNumber : Type 0
DirectionAndDisciplineAreOneNumber = (number : ℤ) →
    ((direction_in number ≡ pos 0) ⊎ (direction_in number ≡ pos 1)) × (number ≡ direction_in number +ℤ pos 2 *ℤ discipline_in number)

-- the request of a service, from n1, n2, n3, the name and the message; arguments that the service does not take are not used
unfoldable pub request_of : Service → ℤ → ℤ → ℤ → List ℕ → List ℕ → Request
request_of service.CreateProcess n1 n2 n3 name message = request.CreateProcess name n1 n2 n3
request_of service.InitializeProcessCoreAffinity n1 n2 n3 name message = request.Process n1 (ProcessOperation.InitializeCoreAffinity n2)
request_of service.Start n1 n2 n3 name message = request.Process n1 ProcessOperation.Start
request_of service.Stop n1 n2 n3 name message = request.Process n1 ProcessOperation.Stop
request_of service.StopSelf n1 n2 n3 name message = request.Caller CallerOperation.StopSelf
request_of service.Suspend n1 n2 n3 name message = request.Process n1 ProcessOperation.Suspend
request_of service.SuspendSelf n1 n2 n3 name message = request.Caller (CallerOperation.SuspendSelf n1)
request_of service.Resume n1 n2 n3 name message = request.Process n1 ProcessOperation.Resume
request_of service.SetPriority n1 n2 n3 name message = request.Process n1 (ProcessOperation.SetPriority n2)
request_of service.GetMyId n1 n2 n3 name message = request.Caller CallerOperation.GetMyId
request_of service.TimedWait n1 n2 n3 name message = request.Caller (CallerOperation.TimedWait n1)
request_of service.PeriodicWait n1 n2 n3 name message = request.Caller CallerOperation.PeriodicWait
request_of service.GetTime n1 n2 n3 name message = request.Caller CallerOperation.GetTime
request_of service.SetPartitionMode n1 n2 n3 name message = request.SetPartitionMode n1
request_of service.CreateBuffer n1 n2 n3 name message = request.Create name (NewObject.Buffer n1 n2 n3)
request_of service.SendBuffer n1 n2 n3 name message = request.Object n1 (on.Buffer (BufferOperation.Send n2 n3 message))
request_of service.ReceiveBuffer n1 n2 n3 name message = request.Object n1 (on.Buffer (BufferOperation.Receive n2))
request_of service.CreateBlackboard n1 n2 n3 name message = request.Create name (NewObject.Blackboard n1)
request_of service.DisplayBlackboard n1 n2 n3 name message = request.Object n1 (on.Blackboard (BlackboardOperation.Display n2 message))
request_of service.ReadBlackboard n1 n2 n3 name message = request.Object n1 (on.Blackboard (BlackboardOperation.Read n2))
request_of service.ClearBlackboard n1 n2 n3 name message = request.Object n1 (on.Blackboard BlackboardOperation.Clear)
request_of service.CreateSemaphore n1 n2 n3 name message = request.Create name (NewObject.Semaphore n1 n2 n3)
request_of service.WaitSemaphore n1 n2 n3 name message = request.Object n1 (on.Semaphore (SemaphoreOperation.Wait n2))
request_of service.SignalSemaphore n1 n2 n3 name message = request.Object n1 (on.Semaphore SemaphoreOperation.Signal)
request_of service.CreateEvent n1 n2 n3 name message = request.Create name NewObject.Event
request_of service.SetEvent n1 n2 n3 name message = request.Object n1 (on.Event EventOperation.Set)
request_of service.ResetEvent n1 n2 n3 name message = request.Object n1 (on.Event EventOperation.Reset)
request_of service.WaitEvent n1 n2 n3 name message = request.Object n1 (on.Event (EventOperation.Wait n2))
request_of service.CreateMutex n1 n2 n3 name message = request.Create name (NewObject.Mutex n1 n2)
request_of service.AcquireMutex n1 n2 n3 name message = request.Object n1 (on.Mutex (MutexOperation.Acquire n2))
request_of service.ReleaseMutex n1 n2 n3 name message = request.Object n1 (on.Mutex MutexOperation.Release)
request_of service.CreateSamplingPort n1 n2 n3 name message = request.Create name (NewObject.SamplingPort n1 n2 n3)
request_of service.WriteSamplingMessage n1 n2 n3 name message = request.SamplingPort n1 (SamplingOperation.Write n2 message)
request_of service.ReadSamplingMessage n1 n2 n3 name message = request.SamplingPort n1 SamplingOperation.Read
request_of service.CreateQueuingPort n1 n2 n3 name message = request.Create name (NewObject.QueuingPort n1 n2 (direction_in n3) (discipline_in n3))
request_of service.SendQueuingMessage n1 n2 n3 name message = request.QueuingPort n1 (QueuingOperation.Send n2 n3 message)
request_of service.ReceiveQueuingMessage n1 n2 n3 name message = request.QueuingPort n1 (QueuingOperation.Receive n2)
request_of service.GetBufferId n1 n2 n3 name message = request.GetId (named.Object kind.Buffer) name
request_of service.GetBufferStatus n1 n2 n3 name message = request.GetStatus kind.Buffer n1
request_of service.GetBlackboardId n1 n2 n3 name message = request.GetId (named.Object kind.Blackboard) name
request_of service.GetBlackboardStatus n1 n2 n3 name message = request.GetStatus kind.Blackboard n1
request_of service.GetSemaphoreId n1 n2 n3 name message = request.GetId (named.Object kind.Semaphore) name
request_of service.GetSemaphoreStatus n1 n2 n3 name message = request.GetStatus kind.Semaphore n1
request_of service.GetEventId n1 n2 n3 name message = request.GetId (named.Object kind.Event) name
request_of service.GetEventStatus n1 n2 n3 name message = request.GetStatus kind.Event n1
request_of service.GetMutexId n1 n2 n3 name message = request.GetId (named.Object kind.Mutex) name
request_of service.GetMutexStatus n1 n2 n3 name message = request.GetStatus kind.Mutex n1
request_of service.GetSamplingPortId n1 n2 n3 name message = request.GetId (named.Object kind.SamplingPort) name
request_of service.GetSamplingPortStatus n1 n2 n3 name message = request.GetStatus kind.SamplingPort n1
request_of service.GetQueuingPortId n1 n2 n3 name message = request.GetId (named.Object kind.QueuingPort) name
request_of service.GetQueuingPortStatus n1 n2 n3 name message = request.GetStatus kind.QueuingPort n1
request_of service.GetPartitionStatus n1 n2 n3 name message = request.Caller CallerOperation.GetPartitionStatus
request_of service.GetProcessId n1 n2 n3 name message = request.GetId named.Process name
request_of service.GetProcessStatus n1 n2 n3 name message = request.Process n1 ProcessOperation.GetStatus
request_of service.DelayedStart n1 n2 n3 name message = request.Process n1 (ProcessOperation.DelayedStart n2)
request_of service.ClearQueuingPort n1 n2 n3 name message = request.QueuingPort n1 QueuingOperation.Clear
request_of service.ResetMutex n1 n2 n3 name message = request.Object n1 (on.Mutex (MutexOperation.Reset n2))
request_of service.GetProcessMutexState n1 n2 n3 name message = request.Process n1 ProcessOperation.GetMutexState
request_of service.ReportApplicationMessage n1 n2 n3 name message = request.Health (HealthOperation.ReportMessage n2 message)
request_of service.CreateErrorHandler n1 n2 n3 name message = request.Health HealthOperation.CreateHandler
request_of service.LockPreemption n1 n2 n3 name message = request.Preemption LockOperation.Lock
request_of service.UnlockPreemption n1 n2 n3 name message = request.Preemption LockOperation.Unlock
request_of service.Replenish n1 n2 n3 name message = request.Caller (CallerOperation.Replenish n1)
request_of service.RaiseApplicationError n1 n2 n3 name message = request.Health (HealthOperation.RaiseError n1 n2 message)
request_of service.GetErrorStatus n1 n2 n3 name message = request.Health HealthOperation.GetErrorStatus
request_of service.ConfigureErrorHandler n1 n2 n3 name message = request.Health (HealthOperation.ConfigureHandler n1 n2)
