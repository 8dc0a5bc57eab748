-- What services report of the state of an object. They leave the object as it is.
use Rattle.std.specs.Prelude.{ℕ, ◌+◌, List, [], ◌∷◌, Option, Some, None, Bool, true, false, ℤ, pos, negsuc, not, is_some, length, option_map, if◌then◌else◌}
use Rattle.apex_types.specs.declared.code.Code.TheVariants as code
use Rattle.apex_types.specs.declared.object_kind.ObjectKind.{ObjectKind}
use Rattle.apex_types.specs.declared.object_kind.ObjectKind.TheVariants as kind
use Rattle.apex_types.specs.declared.record.Out.TheVariants as out
use Rattle.apex_types.specs.declared.record.Who.{Who}
use Rattle.apex_machine.specs.declared.condition.Condition.{Condition}
use Rattle.apex_machine.specs.declared.state.CoreState.{CoreState}
use Rattle.apex_machine.specs.declared.state.Process.{Process}
use Rattle.apex_machine.specs.declared.state.Status.{Status}
use Rattle.apex_machine.specs.Arguments.{mode_number, start_number}
use Rattle.apex_machine.specs.Choice.{is_ready}
use Rattle.apex_machine.specs.Answer.{Answer, Nothing, Number, Value}
use Rattle.apex_machine.specs.Conditions.{conditions_for}
use Rattle.apex_machine.specs.Locks.{owns_lock}
use Rattle.apex_machine.specs.Objects.{is_owner}
use Rattle.apex_machine.specs.State.{Blackboard, Buffer, Event, Mutex, Partition, Port, Semaphore, given_object, is_occupant, objects_of, occupant_of}

-- the service reports these values at once
abbrev pub reporting : ℤ → Option ℤ → Option ℤ → Answer
reporting val val2 val3 = record { out = out.Answer code.NoError; val = Number val; val2 = val2; val3 = val3; bytes = []; woken = [] }

-- 1 for what is true, 0 for what is not
abbrev pub number_reported : Bool → ℕ
number_reported true = 1
number_reported false = 0

-- GET_BUFFER_STATUS: how many messages it holds, and how many wait to send or to receive
abbrev pub buffer_status : Buffer → Status
buffer_status buffer = record { val = length buffer.messages; val2 = Some (length buffer.senders + length buffer.receivers); val3 = None }

-- GET_BLACKBOARD_STATUS: whether a message is on it, and how many wait
abbrev pub blackboard_status : Blackboard → Status
blackboard_status blackboard = record { val = number_reported (is_some blackboard.message); val2 = Some (length blackboard.readers); val3 = None }

-- GET_SEMAPHORE_STATUS: its value, and how many wait
abbrev pub semaphore_status : Semaphore → Status
semaphore_status semaphore = record { val = semaphore.value; val2 = Some (length semaphore.waiters); val3 = None }

-- GET_EVENT_STATUS: whether it is up, and how many wait
abbrev pub event_status : Event → Status
event_status event = record { val = number_reported event.up; val2 = Some (length event.waiters); val3 = None }

-- the number of a mutex's owner, or 0 if it has none; no mutex is owned by the initialising process
abbrev pub owner_reported : Option ℕ → ℕ
owner_reported None = 0
owner_reported (Some owner) = owner

-- GET_MUTEX_STATUS: its owner, how many wait, and how often it was acquired
abbrev pub mutex_status : Mutex → Status
mutex_status mutex = record { val = owner_reported mutex.owner; val2 = Some (length mutex.waiters); val3 = Some mutex.count }

-- GET_SAMPLING_PORT_STATUS: whether its last read gave a valid sample; no process reads at a source
abbrev pub sampling_port_status : Port → Status
sampling_port_status port = record { val = number_reported port.valid; val2 = None; val3 = None }

-- processes and partitions

-- the state of a process: DORMANT is 0, READY 1, RUNNING 2, WAITING 3 and FAULTED 4. It runs if it is ready and is the occupant of its
-- core
abbrev pub state_number : List CoreState → Who → Process → ℕ
state_number cores who process =
    if not process.alive then 0
    else if process.faulted then 4
    else if not (is_ready process.affinity process) then 3
    else if is_occupant who (occupant_of cores process.affinity) then 2
    else 1

-- a deadline, or -1 if there is none
abbrev pub deadline_number : Option ℕ → ℤ
deadline_number None = negsuc 0
deadline_number (Some deadline) = pos deadline

-- GET_PROCESS_STATUS: the state, the current priority, and the deadline
abbrev pub process_status : List CoreState → Who → Process → Answer
process_status cores who process =
    reporting (pos (state_number cores who process)) (Some (pos process.current_priority)) (Some (deadline_number process.deadline))

-- GET_PARTITION_STATUS: the mode, the lock level, and the start condition
abbrev pub partition_status : Partition → Answer
partition_status partition = reporting (pos (mode_number partition.mode)) (Some (pos partition.lock.level)) (Some (pos (start_number partition.start)))

-- the number of the mutex that a process owns, or -2 if it owns none
abbrev pub mutex_owned : List (ℕ × Mutex) → ℕ → ℤ
mutex_owned [] number = negsuc 1
mutex_owned (entry ∷ entries) number = if is_owner entry.1.owner number then pos entry.0 else mutex_owned entries number

-- GET_PROCESS_MUTEX_STATE: the number of the mutex that a process owns, -3 if it owns the lock, or -2 if it owns neither
abbrev pub mutex_state : Partition → ℕ → ℤ
mutex_state partition number = if owns_lock partition number then negsuc 2 else mutex_owned partition.mutexes number

-- objects

-- the status of the object of a kind that has this number, if it is created; the channel of a queuing port reports that port's status
abbrev pub status_of : Partition → ObjectKind → ℤ → Option Status
status_of partition kind.Buffer buffer = option_map buffer_status (given_object partition.buffers buffer)
status_of partition kind.Blackboard blackboard = option_map blackboard_status (given_object partition.blackboards blackboard)
status_of partition kind.Semaphore semaphore = option_map semaphore_status (given_object partition.semaphores semaphore)
status_of partition kind.Event event = option_map event_status (given_object partition.events event)
status_of partition kind.Mutex mutex = option_map mutex_status (given_object partition.mutexes mutex)
status_of partition kind.SamplingPort port = option_map sampling_port_status (given_object partition.sampling_ports port)
status_of partition kind.QueuingPort port = None

-- GET_BUFFER_STATUS and its counterparts: a created object or port of the kind
abbrev pub get_status_conditions : Partition → ObjectKind → ℤ → List Condition
get_status_conditions partition kind object = conditions_for (given_object (objects_of partition kind) object) (λ found. [])

-- the first number of a status
abbrev pub first_reported : Option Status → Value
first_reported None = Nothing
first_reported (Some status) = Number (pos status.val)

-- the second number of a status, if it has one
abbrev pub second_reported : Option Status → Option ℤ
second_reported None = None
second_reported (Some status) = option_map pos status.val2

-- the third number of a status, if it has one
abbrev pub third_reported : Option Status → Option ℤ
third_reported None = None
third_reported (Some status) = option_map pos status.val3

-- the service reports a status at once
abbrev pub telling : Option Status → Answer
telling status = record {
  out = out.Answer code.NoError;
  val = first_reported status;
  val2 = second_reported status;
  val3 = third_reported status;
  bytes = [];
  woken = [];
}
