-- What the operations on objects and queuing ports are: of which kind, by which service, how their callers may wait, and what they give.
use Rattle.std.specs.Prelude.{ℕ, ℤ, List, [], Some, None}
use Rattle.apex_types.specs.declared.object_kind.ObjectKind.{ObjectKind}
use Rattle.apex_types.specs.declared.object_kind.ObjectKind.TheVariants as kind
use Rattle.apex_types.specs.declared.operation.{BlackboardOperation.BlackboardOperation, BufferOperation.BufferOperation, EventOperation.EventOperation, MutexOperation.MutexOperation, ObjectOperation.ObjectOperation, QueuingOperation.QueuingOperation, SemaphoreOperation.SemaphoreOperation}
use Rattle.apex_types.specs.declared.operation.ObjectOperation.TheVariants as on
use Rattle.apex_types.specs.declared.service.Service.{Service}
use Rattle.apex_types.specs.declared.service.Service.TheVariants as service
use Rattle.apex_types.specs.declared.shape.End.{End}
use Rattle.apex_types.specs.declared.shape.End.TheVariants.{Senders, Receivers}
use Rattle.apex_types.specs.declared.shape.Shape.{Shape}

-- an operation by this service, whose caller may wait at this end until this time-out
abbrev pub waiting : Service → End → ℤ → Shape
waiting service end time_out = record { service = service; wait = Some (record { end = end; time_out = time_out }) }

-- an operation by this service, whose caller never waits
abbrev pub at_once : Service → Shape
at_once service = record { service = service; wait = None }

-- the operations on a buffer
abbrev pub shape_of_buffer : BufferOperation → Shape
shape_of_buffer (BufferOperation.Send length time_out message) = waiting service.SendBuffer Senders time_out
shape_of_buffer (BufferOperation.Receive time_out) = waiting service.ReceiveBuffer Receivers time_out

-- the operations on a blackboard
abbrev pub shape_of_blackboard : BlackboardOperation → Shape
shape_of_blackboard (BlackboardOperation.Display length message) = at_once service.DisplayBlackboard
shape_of_blackboard (BlackboardOperation.Read time_out) = waiting service.ReadBlackboard Receivers time_out
shape_of_blackboard BlackboardOperation.Clear = at_once service.ClearBlackboard

-- the operations on a semaphore
abbrev pub shape_of_semaphore : SemaphoreOperation → Shape
shape_of_semaphore (SemaphoreOperation.Wait time_out) = waiting service.WaitSemaphore Receivers time_out
shape_of_semaphore SemaphoreOperation.Signal = at_once service.SignalSemaphore

-- the operations on an event
abbrev pub shape_of_event : EventOperation → Shape
shape_of_event EventOperation.Set = at_once service.SetEvent
shape_of_event EventOperation.Reset = at_once service.ResetEvent
shape_of_event (EventOperation.Wait time_out) = waiting service.WaitEvent Receivers time_out

-- the operations on a mutex
abbrev pub shape_of_mutex : MutexOperation → Shape
shape_of_mutex (MutexOperation.Acquire time_out) = waiting service.AcquireMutex Receivers time_out
shape_of_mutex MutexOperation.Release = at_once service.ReleaseMutex
shape_of_mutex (MutexOperation.Reset process) = at_once service.ResetMutex

-- the operations on a queuing port, whose callers wait at an end of its channel
abbrev pub shape_of_queuing : QueuingOperation → Shape
shape_of_queuing (QueuingOperation.Send length time_out message) = waiting service.SendQueuingMessage Senders time_out
shape_of_queuing (QueuingOperation.Receive time_out) = waiting service.ReceiveQueuingMessage Receivers time_out
shape_of_queuing QueuingOperation.Clear = at_once service.ClearQueuingPort

-- an operation on an object
abbrev pub shape_on : ObjectOperation → Shape
shape_on (on.Buffer operation) = shape_of_buffer operation
shape_on (on.Blackboard operation) = shape_of_blackboard operation
shape_on (on.Semaphore operation) = shape_of_semaphore operation
shape_on (on.Event operation) = shape_of_event operation
shape_on (on.Mutex operation) = shape_of_mutex operation

-- the kind of the object that an operation uses
abbrev pub kind_used : ObjectOperation → ObjectKind
kind_used (on.Buffer operation) = kind.Buffer
kind_used (on.Blackboard operation) = kind.Blackboard
kind_used (on.Semaphore operation) = kind.Semaphore
kind_used (on.Event operation) = kind.Event
kind_used (on.Mutex operation) = kind.Mutex

-- the message that the caller of an operation gives; empty if it gives none
abbrev pub message_on : ObjectOperation → List ℕ
message_on (on.Buffer (BufferOperation.Send length time_out message)) = message
message_on (on.Blackboard (BlackboardOperation.Display length message)) = message
message_on _ = []
