-- The service of a request, and the kind of what it creates.
use Rattle.std.specs.Prelude.{Some, None}
use Rattle.apex_types.specs.declared.object_kind.KindServices.{KindServices}
use Rattle.apex_types.specs.declared.object_kind.NamedKind.{NamedKind}
use Rattle.apex_types.specs.declared.object_kind.NamedKind.TheVariants as named
use Rattle.apex_types.specs.declared.object_kind.ObjectKind.{ObjectKind}
use Rattle.apex_types.specs.declared.object_kind.ObjectKind.TheVariants as kind
use Rattle.apex_types.specs.declared.operation.{CallerOperation.CallerOperation, HealthOperation.HealthOperation, LockOperation.LockOperation, NewObject.NewObject, ProcessOperation.ProcessOperation, SamplingOperation.SamplingOperation}
use Rattle.apex_types.specs.declared.request.Request.{Request}
use Rattle.apex_types.specs.declared.request.Request.TheVariants as request
use Rattle.apex_types.specs.declared.service.Service.{Service}
use Rattle.apex_types.specs.declared.service.Service.TheVariants as service
use Rattle.apex_types.specs.Shapes.{shape_of_queuing, shape_on}

-- the kind of what a creation creates
abbrev pub kind_of : NewObject → ObjectKind
kind_of (NewObject.Buffer size capacity discipline) = kind.Buffer
kind_of (NewObject.Blackboard size) = kind.Blackboard
kind_of (NewObject.Semaphore value maximum discipline) = kind.Semaphore
kind_of NewObject.Event = kind.Event
kind_of (NewObject.Mutex priority discipline) = kind.Mutex
kind_of (NewObject.SamplingPort size direction refresh) = kind.SamplingPort
kind_of (NewObject.QueuingPort size capacity direction discipline) = kind.QueuingPort

-- the services that create one of a kind, report the number of what has a name, report the status of one of the kind, and those whose
-- callers may wait to send and to receive
abbrev pub services_of : ObjectKind → KindServices
services_of kind.Buffer = record {
  creation = service.CreateBuffer;
  id = service.GetBufferId;
  status = service.GetBufferStatus;
  sending = Some service.SendBuffer;
  receiving = Some service.ReceiveBuffer;
}
services_of kind.Blackboard = record {
  creation = service.CreateBlackboard;
  id = service.GetBlackboardId;
  status = service.GetBlackboardStatus;
  sending = None;
  receiving = Some service.ReadBlackboard;
}
services_of kind.Semaphore = record {
  creation = service.CreateSemaphore;
  id = service.GetSemaphoreId;
  status = service.GetSemaphoreStatus;
  sending = None;
  receiving = Some service.WaitSemaphore;
}
services_of kind.Event = record {
  creation = service.CreateEvent;
  id = service.GetEventId;
  status = service.GetEventStatus;
  sending = None;
  receiving = Some service.WaitEvent;
}
services_of kind.Mutex = record {
  creation = service.CreateMutex;
  id = service.GetMutexId;
  status = service.GetMutexStatus;
  sending = None;
  receiving = Some service.AcquireMutex;
}
services_of kind.SamplingPort = record {
  creation = service.CreateSamplingPort;
  id = service.GetSamplingPortId;
  status = service.GetSamplingPortStatus;
  sending = None;
  receiving = None;
}
services_of kind.QueuingPort = record {
  creation = service.CreateQueuingPort;
  id = service.GetQueuingPortId;
  status = service.GetQueuingPortStatus;
  sending = Some service.SendQueuingMessage;
  receiving = Some service.ReceiveQueuingMessage;
}

-- the service that reports the number of what has a name
abbrev pub id_service : NamedKind → Service
id_service named.Process = service.GetProcessId
id_service (named.Object kind) = (services_of kind).id

-- the service that requests this operation of a process
abbrev pub process_service : ProcessOperation → Service
process_service (ProcessOperation.InitializeCoreAffinity core) = service.InitializeProcessCoreAffinity
process_service ProcessOperation.Start = service.Start
process_service (ProcessOperation.DelayedStart delay) = service.DelayedStart
process_service ProcessOperation.Stop = service.Stop
process_service ProcessOperation.Suspend = service.Suspend
process_service ProcessOperation.Resume = service.Resume
process_service (ProcessOperation.SetPriority priority) = service.SetPriority
process_service ProcessOperation.GetStatus = service.GetProcessStatus
process_service ProcessOperation.GetMutexState = service.GetProcessMutexState

-- the service by which a process requests this operation for itself
abbrev pub caller_service : CallerOperation → Service
caller_service CallerOperation.StopSelf = service.StopSelf
caller_service (CallerOperation.SuspendSelf time_out) = service.SuspendSelf
caller_service CallerOperation.GetMyId = service.GetMyId
caller_service (CallerOperation.TimedWait delay) = service.TimedWait
caller_service CallerOperation.PeriodicWait = service.PeriodicWait
caller_service CallerOperation.GetTime = service.GetTime
caller_service CallerOperation.GetPartitionStatus = service.GetPartitionStatus
caller_service (CallerOperation.Replenish budget) = service.Replenish

-- the service that requests this operation of a sampling port
abbrev pub sampling_service : SamplingOperation → Service
sampling_service (SamplingOperation.Write length message) = service.WriteSamplingMessage
sampling_service SamplingOperation.Read = service.ReadSamplingMessage

-- the service that requests this operation of the lock
abbrev pub lock_service : LockOperation → Service
lock_service LockOperation.Lock = service.LockPreemption
lock_service LockOperation.Unlock = service.UnlockPreemption

-- the service that requests this operation of the health monitor or the error handler
abbrev pub health_service : HealthOperation → Service
health_service (HealthOperation.ReportMessage length message) = service.ReportApplicationMessage
health_service HealthOperation.CreateHandler = service.CreateErrorHandler
health_service (HealthOperation.ConfigureHandler concurrency core) = service.ConfigureErrorHandler
health_service (HealthOperation.RaiseError error length message) = service.RaiseApplicationError
health_service HealthOperation.GetErrorStatus = service.GetErrorStatus

-- the service of a request
abbrev pub service_of : Request → Service
service_of (request.CreateProcess name priority period time_capacity) = service.CreateProcess
service_of (request.Process process operation) = process_service operation
service_of (request.Caller operation) = caller_service operation
service_of (request.SetPartitionMode mode) = service.SetPartitionMode
service_of (request.Create name object) = (services_of (kind_of object)).creation
service_of (request.Object number operation) = (shape_on operation).service
service_of (request.SamplingPort port operation) = sampling_service operation
service_of (request.QueuingPort port operation) = (shape_of_queuing operation).service
service_of (request.GetId kind name) = id_service kind
service_of (request.GetStatus kind object) = (services_of kind).status
service_of (request.Health operation) = health_service operation
service_of (request.Preemption operation) = lock_service operation
