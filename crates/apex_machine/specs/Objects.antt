-- Buffers, blackboards, semaphores, events and mutexes: what each operation gives its caller, and how it leaves the object, waiting sets
-- aside.
use Rattle.std.specs.Prelude.{ℕ, zero, suc, ◌+◌, ◌-◌, List, [], ◌∷◌, Option, Some, None, Bool, true, false, ℤ, nat_eq, nat_lt, if◌then◌else◌}
use Rattle.apex_types.specs.declared.code.Code.TheVariants as code
use Rattle.apex_types.specs.declared.operation.{BlackboardOperation.BlackboardOperation, BufferOperation.BufferOperation, EventOperation.EventOperation, MutexOperation.MutexOperation, ObjectOperation.ObjectOperation, SemaphoreOperation.SemaphoreOperation}
use Rattle.apex_types.specs.declared.operation.ObjectOperation.TheVariants as on
use Rattle.apex_types.specs.Shapes.{kind_used}
use Rattle.apex_machine.specs.declared.state.Entry.{Entry}
use Rattle.apex_machine.specs.Answer.{Effect, answering, done, effect_on, giving, unmet, waking, waiters_of}
use Rattle.apex_machine.specs.Queue.{Messages, received, sent}
use Rattle.apex_machine.specs.State.{Blackboard, Buffer, Event, Mutex, ObjectOf, Semaphore}
use Rattle.apex_machine.specs.Waiting.{first_waiter}

-- buffers

-- SEND_BUFFER, given the first of the processes that wait to receive
abbrev pub buffer_sent : List ℕ → ℤ → Buffer → Effect Messages
buffer_sent message time_out buffer = sent buffer.capacity message time_out (first_waiter buffer.discipline buffer.receivers) buffer.messages

-- RECEIVE_BUFFER, given the first of the processes that wait to send
abbrev pub buffer_received : ℤ → Buffer → Effect Messages
buffer_received time_out buffer = received time_out (first_waiter buffer.discipline buffer.senders) buffer.messages

-- what an operation on a buffer makes of its messages
abbrev pub messages_by : BufferOperation → Buffer → Effect Messages
messages_by (BufferOperation.Send length time_out message) buffer = buffer_sent message time_out buffer
messages_by (BufferOperation.Receive time_out) buffer = buffer_received time_out buffer

-- an operation on a buffer
abbrev pub buffer_effect : BufferOperation → Buffer → Effect Buffer
buffer_effect operation buffer = effect_on (λ messages. record buffer { messages = messages }) (messages_by operation buffer)

-- blackboards

-- DISPLAY_BLACKBOARD: the message replaces the last one, and every waiting reader wakes
abbrev pub displayed : List ℕ → List Entry → Effect (Option (List ℕ))
displayed message readers = record { answer = waking (waiters_of readers); next = Some message }

-- READ_BLACKBOARD: the caller gets the message, which stays on the blackboard; if there is none, the call is unmet
abbrev pub board_read : ℤ → Option (List ℕ) → Effect (Option (List ℕ))
board_read time_out None = record { answer = unmet time_out; next = None }
board_read time_out (Some message) = record { answer = giving message []; next = Some message }

-- CLEAR_BLACKBOARD: the blackboard becomes empty
abbrev pub cleared : Effect (Option (List ℕ))
cleared = record { answer = done; next = None }

-- what an operation on a blackboard makes of its message
abbrev pub message_by : BlackboardOperation → Blackboard → Effect (Option (List ℕ))
message_by (BlackboardOperation.Display length message) board = displayed message board.readers
message_by (BlackboardOperation.Read time_out) board = board_read time_out board.message
message_by BlackboardOperation.Clear board = cleared

-- an operation on a blackboard
abbrev pub blackboard_effect : BlackboardOperation → Blackboard → Effect Blackboard
blackboard_effect operation board = effect_on (λ message. record board { message = message }) (message_by operation board)

-- semaphores

-- WAIT_SEMAPHORE: a value above 0 falls by one; else the call is unmet
abbrev pub semaphore_waited : ℤ → ℕ → Effect ℕ
semaphore_waited time_out zero = record { answer = unmet time_out; next = zero }
semaphore_waited time_out (suc value) = record { answer = done; next = value }

-- the value rises by one
abbrev pub raised : ℕ → Effect ℕ
raised value = record { answer = done; next = value + 1 }

-- the value is at its maximum, and stays
abbrev pub at_maximum : ℕ → Effect ℕ
at_maximum value = record { answer = answering code.NoAction; next = value }

-- SIGNAL_SEMAPHORE: the first waiter wakes; else the value rises by one; at the maximum nothing is done
abbrev pub signalled : ℕ → Option Entry → ℕ → Effect ℕ
signalled maximum (Some waiter) value = record { answer = waking (waiter.who ∷ []); next = value }
signalled maximum None value = if nat_lt value maximum then raised value else at_maximum value

-- what an operation on a semaphore makes of its value
abbrev pub value_by : SemaphoreOperation → Semaphore → Effect ℕ
value_by (SemaphoreOperation.Wait time_out) semaphore = semaphore_waited time_out semaphore.value
value_by SemaphoreOperation.Signal semaphore = signalled semaphore.maximum (first_waiter semaphore.discipline semaphore.waiters) semaphore.value

-- an operation on a semaphore
abbrev pub semaphore_effect : SemaphoreOperation → Semaphore → Effect Semaphore
semaphore_effect operation semaphore = effect_on (λ value. record semaphore { value = value }) (value_by operation semaphore)

-- events

-- SET_EVENT: the event goes up, and every waiter wakes
abbrev pub event_set : List Entry → Effect Bool
event_set waiters = record { answer = waking (waiters_of waiters); next = true }

-- RESET_EVENT: the event goes down
abbrev pub event_reset : Effect Bool
event_reset = record { answer = done; next = false }

-- WAIT_EVENT: if the event is up, the caller goes on; else the call is unmet
abbrev pub event_waited : ℤ → Bool → Effect Bool
event_waited time_out true = record { answer = done; next = true }
event_waited time_out false = record { answer = unmet time_out; next = false }

-- what an operation on an event makes of it: up or down
abbrev pub up_by : EventOperation → Event → Effect Bool
up_by EventOperation.Set event = event_set event.waiters
up_by EventOperation.Reset event = event_reset
up_by (EventOperation.Wait time_out) event = event_waited time_out event.up

-- an operation on an event
abbrev pub event_effect : EventOperation → Event → Effect Event
event_effect operation event = effect_on (λ up. record event { up = up }) (up_by operation event)

-- mutexes

-- the mutex, once this process owns it
abbrev pub owned_by : ℕ → Mutex → Mutex
owned_by number mutex = record mutex { owner = Some number; count = 1 }

-- the owner acquires it once more
abbrev pub acquired_again : Mutex → Effect Mutex
acquired_again mutex = record { answer = done; next = record mutex { count = mutex.count + 1 } }

-- another process owns it
abbrev pub not_acquired : ℤ → Mutex → Effect Mutex
not_acquired time_out mutex = record { answer = unmet time_out; next = mutex }

-- acquiring, by who owns the mutex
abbrev pub acquired_from : Option ℕ → ℕ → ℤ → Mutex → Effect Mutex
acquired_from None caller time_out mutex = record { answer = done; next = owned_by caller mutex }
acquired_from (Some owner) caller time_out mutex = if nat_eq owner caller then acquired_again mutex else not_acquired time_out mutex

-- ACQUIRE_MUTEX: a free mutex becomes the caller's; its owner acquires it once more; if another process owns it, the call is unmet
abbrev pub acquired : ℕ → ℤ → Mutex → Effect Mutex
acquired caller time_out mutex = acquired_from mutex.owner caller time_out mutex

-- the last release, and RESET_MUTEX: the first waiter becomes the owner; with no waiter the mutex becomes free
abbrev pub handed_on : Option Entry → Mutex → Effect Mutex
handed_on None mutex = record { answer = done; next = record mutex { owner = None; count = 0 } }
handed_on (Some waiter) mutex = record { answer = waking (waiter.who ∷ []); next = owned_by waiter.who.proc mutex }

-- a release that is not the last: the owner keeps the mutex
abbrev pub released_once : Mutex → Effect Mutex
released_once mutex = record { answer = done; next = record mutex { count = mutex.count - 1 } }

-- RELEASE_MUTEX, given the first waiter, if any
abbrev pub mutex_released : Option Entry → Mutex → Effect Mutex
mutex_released first mutex = if nat_lt 1 mutex.count then released_once mutex else handed_on first mutex

-- an operation of this process on a mutex
abbrev pub mutex_effect : ℕ → MutexOperation → Mutex → Effect Mutex
mutex_effect caller (MutexOperation.Acquire time_out) mutex = acquired caller time_out mutex
mutex_effect caller MutexOperation.Release mutex = mutex_released (first_waiter mutex.discipline mutex.waiters) mutex
mutex_effect caller (MutexOperation.Reset process) mutex = handed_on (first_waiter mutex.discipline mutex.waiters) mutex

-- whether a process owns a mutex
abbrev pub is_owner : Option ℕ → ℕ → Bool
is_owner None number = false
is_owner (Some owner) number = nat_eq owner number

-- any object

-- an operation of this process on an object
abbrev pub object_effect : ℕ → (operation : ObjectOperation) → ObjectOf (kind_used operation) → Effect (ObjectOf (kind_used operation))
object_effect caller (on.Buffer operation) buffer = buffer_effect operation buffer
object_effect caller (on.Blackboard operation) blackboard = blackboard_effect operation blackboard
object_effect caller (on.Semaphore operation) semaphore = semaphore_effect operation semaphore
object_effect caller (on.Event operation) event = event_effect operation event
object_effect caller (on.Mutex operation) mutex = mutex_effect caller operation mutex
