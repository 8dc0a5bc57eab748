-- Waits: in which waiting set a call waits, and how a wait with a time-out ends.
use Rattle.std.specs.Prelude.{◌≡◌, ◌↔◌, ℕ, ◌+◌, ◌≤◌, ℤ, pos, negsuc, List, [], Option, Some, None, true, false}
use Rattle.apex_types.specs.declared.object_kind.ObjectKind.TheVariants as kind
use Rattle.apex_types.specs.declared.code.Code.TheVariants as code
use Rattle.apex_types.specs.declared.record.Call.{Call as CallRecord}
use Rattle.apex_types.specs.declared.record.Out.TheVariants as out
use Rattle.apex_types.specs.declared.operation.{BlackboardOperation.BlackboardOperation, BufferOperation.BufferOperation, EventOperation.EventOperation, LockOperation.LockOperation, MutexOperation.MutexOperation, QueuingOperation.QueuingOperation, SemaphoreOperation.SemaphoreOperation}
use Rattle.apex_types.specs.declared.request.Request.{Request}
use Rattle.apex_types.specs.declared.operation.ObjectOperation.TheVariants as on
use Rattle.apex_types.specs.declared.request.Request.TheVariants as request
use Rattle.apex_types.specs.Requested.{service_of}
use Rattle.apex_types.specs.declared.shape.End.TheVariants.{Senders, Receivers}
use Rattle.apex_machine.specs.declared.state.Process.{Process}
use Rattle.apex_machine.specs.declared.state.WaitingSet.{WaitingSet}
use Rattle.apex_machine.specs.Arguments.{natural_of}
use Rattle.apex_machine.specs.DueTimes.{falls_due}
use Rattle.apex_machine.specs.declared.state.Wait.TheVariants as wait
use Rattle.apex_machine.specs.Locks.{enters_lock}
use Rattle.apex_machine.specs.Processes.{caller_after, released}
use Rattle.apex_machine.specs.Waiting.{enters}
use Rattle.apex_laws.specs.ConditionSentences.{HasTimeOut}
use Rattle.apex_machine.specs.State.{channel_set, set_at}

-- the waiting set of a service: that of the object that it names, or that of its end of the channel that its call claims
pub data WaitsIn : Request → Option ℕ → WaitingSet → Type 0 where
  sends_to_buffer : {buffer length time_out : ℤ} {message : List ℕ} {chan : Option ℕ} → WaitsIn (request.Object buffer (on.Buffer (BufferOperation.Send length time_out message))) chan (set_at kind.Buffer (natural_of buffer) Senders)
  receives_from_buffer : {buffer time_out : ℤ} {chan : Option ℕ} → WaitsIn (request.Object buffer (on.Buffer (BufferOperation.Receive time_out))) chan (set_at kind.Buffer (natural_of buffer) Receivers)
  reads_blackboard : {blackboard time_out : ℤ} {chan : Option ℕ} → WaitsIn (request.Object blackboard (on.Blackboard (BlackboardOperation.Read time_out))) chan (set_at kind.Blackboard (natural_of blackboard) Receivers)
  waits_for_semaphore : {semaphore time_out : ℤ} {chan : Option ℕ} → WaitsIn (request.Object semaphore (on.Semaphore (SemaphoreOperation.Wait time_out))) chan (set_at kind.Semaphore (natural_of semaphore) Receivers)
  waits_for_event : {event time_out : ℤ} {chan : Option ℕ} → WaitsIn (request.Object event (on.Event (EventOperation.Wait time_out))) chan (set_at kind.Event (natural_of event) Receivers)
  acquires_mutex : {mutex time_out : ℤ} {chan : Option ℕ} → WaitsIn (request.Object mutex (on.Mutex (MutexOperation.Acquire time_out))) chan (set_at kind.Mutex (natural_of mutex) Receivers)
  sends_through : {port length time_out : ℤ} {message : List ℕ} {channel : ℕ} → WaitsIn (request.QueuingPort port (QueuingOperation.Send length time_out message)) (Some channel) (channel_set channel Senders)
  receives_through : {port time_out : ℤ} {channel : ℕ} → WaitsIn (request.QueuingPort port (QueuingOperation.Receive time_out)) (Some channel) (channel_set channel Receivers)

-- a call enters a waiting set exactly if it waits, and the set is its service's
abbrev pub EnteringIsTheSentence : Type 0
EnteringIsTheSentence =
    (call : CallRecord) (wanted : WaitingSet)
    → (enters call wanted ≡ true) ↔ ((call.claim.out ≡ out.Waits) × WaitsIn call.request call.claim.chan wanted)

-- a call enters the waiting set of the lock exactly if it waits, and is one of the lock
abbrev pub EnteringLockIsTheSentence : Type 0
EnteringLockIsTheSentence =
    (call : CallRecord)
    → (enters_lock call ≡ true) ↔ ((call.claim.out ≡ out.Waits) × ((operation : LockOperation) × (call.request ≡ request.Preemption operation)))

-- a process that waits for the lock never falls due
abbrev pub LockIsAwaitedForever : Type 0
LockIsAwaitedForever = (core time : ℕ) (process : Process) → process.wait ≡ wait.ForLock → falls_due core time (Some process) ≡ false

-- a call that waits in a set with a time-out of some ticks: the caller falls due on its core exactly from the end of the time-out on, and
-- its service then returns TIMED_OUT; with a time-out of -1 it never falls due
abbrev pub TimeOutIsTheSentence : Type 0
TimeOutIsTheSentence =
    (place now : ℕ) (call : CallRecord) (wanted : WaitingSet) (old : Process) → call.claim.out ≡ out.Waits → WaitsIn call.request call.claim.chan wanted
    → ((ticks core time : ℕ) → HasTimeOut call.request (pos ticks)
    → (falls_due core time (Some (caller_after place now false call old)) ≡ true) ↔ ((old.affinity ≡ core) × (now + ticks ≤ time)))
    × (HasTimeOut call.request (negsuc 0) → (core time : ℕ) → falls_due core time (Some (caller_after place now false call old)) ≡ false)
    × ((later : ℕ) → (released later (caller_after place now false call old)).due ≡ Some (record { service = service_of call.request; code = code.TimedOut; val = None; val2 = None; val3 = None; bytes = [] }))
