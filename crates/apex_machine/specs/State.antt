-- The state of the machine between two records, and the cold state in which every run begins.
use Rattle.std.specs.Prelude.{ℕ, zero, suc, List, [], ◌∷◌, Option, Some, None, Bool, true, false, ℤ, pos, negsuc, nat_eq, ◌&&◌, ◌||◌, replicate, is_none, is_some, if◌then◌else◌}
use Rattle.apex_types.specs.declared.discipline.Discipline.{Discipline}
use Rattle.apex_types.specs.declared.object_kind.ObjectKind.{ObjectKind}
use Rattle.apex_types.specs.declared.object_kind.ObjectKind.TheVariants as kind
use Rattle.apex_types.specs.declared.record.Who.{Who}
use Rattle.apex_types.specs.declared.shape.End.{End}
use Rattle.apex_types.specs.declared.shape.End.TheVariants.{Senders, Receivers}
use Rattle.apex_types.specs.contracts.object_kind.ObjectKindPartialEq.TheImpl as kinds
use Rattle.apex_types.specs.contracts.shape.EndPartialEq.TheImpl as ends
use Rattle.apex_machine.specs.declared.state.CoreState.{CoreState}
use Rattle.apex_machine.specs.declared.state.Direction.{Direction}
use Rattle.apex_machine.specs.declared.state.Entry.{Entry}
use Rattle.apex_machine.specs.declared.state.ErrorHandler.{ErrorHandler}
use Rattle.apex_machine.specs.declared.state.ListedError.{ListedError}
use Rattle.apex_machine.specs.declared.state.Mode.{Mode}
use Rattle.apex_machine.specs.declared.state.Mode.TheVariants as mode
use Rattle.apex_machine.specs.declared.state.Process.{Process}
use Rattle.apex_machine.specs.declared.state.StartCondition.{StartCondition}
use Rattle.apex_machine.specs.declared.state.StartCondition.TheVariants.{NormalStart}
use Rattle.apex_machine.specs.declared.state.Wait.TheVariants as wait
use Rattle.apex_machine.specs.declared.state.WaitingSet.{WaitingSet}
use Rattle.apex_machine.specs.Configuration.{Configuration, first_core}
use Rattle.apex_machine.specs.Channels.{queuing_of}

-- the processes of a partition under their numbers, in the order of their creation; number 0 is the initialising process
abbrev pub Table : Type 0
Table = List (ℕ × Process)

-- a buffer: the messages that it holds, the oldest first, and the processes that wait to send and to receive   (buffers, section 3)
pub record Buffer : Type 0 where
  pub name : List ℕ
  pub size : ℕ
  pub capacity : ℕ
  pub discipline : Discipline
  pub messages : List (List ℕ)
  pub senders : List Entry
  pub receivers : List Entry

-- a blackboard: the message on it, if it is not empty, and the processes that wait to read   (blackboards, section 3)
pub record Blackboard : Type 0 where
  pub name : List ℕ
  pub size : ℕ
  pub message : Option (List ℕ)
  pub readers : List Entry

-- a counting semaphore: its value, its maximum, and the processes that wait   (semaphores, section 3)
pub record Semaphore : Type 0 where
  pub name : List ℕ
  pub maximum : ℕ
  pub discipline : Discipline
  pub value : ℕ
  pub waiters : List Entry

-- an event: whether it is up, and the processes that wait for it   (events, section 3)
pub record Event : Type 0 where
  pub name : List ℕ
  pub up : Bool
  pub waiters : List Entry

-- a mutex: its priority, the process that owns it, how often it was acquired, and the processes that wait   (mutexes, section 3)
pub record Mutex : Type 0 where
  pub name : List ℕ
  pub priority : ℕ
  pub discipline : Discipline
  pub owner : Option ℕ
  pub count : ℕ
  pub waiters : List Entry

-- the lock on preemption of a partition: the process that owns it, its level, and the processes that wait, which go by priority   (partition
-- scheduling, section 2)
pub record Lock : Type 0 where
  pub owner : Option ℕ
  pub level : ℕ
  pub waiters : List Entry

-- a created port: the greatest size of its messages, its direction, its channel, and whether the last read at it
-- gave a valid sample   (ports, section 3)
pub record Port : Type 0 where
  pub name : List ℕ
  pub size : ℕ
  pub direction : Direction
  pub channel : ℕ
  pub valid : Bool

-- a partition: its operating mode, its start condition, its error handler, if it has created one, the errors that the handler has still to
-- take, the oldest first, its lock, its processes, and its objects and ports of each kind under their numbers   (section 2)
pub record Partition : Type 0 where
  pub mode : Mode
  pub start : StartCondition
  pub handler : Option ErrorHandler
  pub errors : List ListedError
  pub lock : Lock
  pub table : Table
  pub buffers : List (ℕ × Buffer)
  pub blackboards : List (ℕ × Blackboard)
  pub semaphores : List (ℕ × Semaphore)
  pub events : List (ℕ × Event)
  pub mutexes : List (ℕ × Mutex)
  pub sampling_ports : List (ℕ × Port)
  pub queuing_ports : List (ℕ × Port)

-- a message with the time at which it was written
pub record Stamped : Type 0 where
  pub message : List ℕ
  pub stamp : ℕ

-- what a channel holds: a sampling channel the message last written, a queuing channel its messages, the oldest first
pub data Content : Type 0 where
  Sampled : (last : Option Stamped) → Content
  Queued : (messages : List (List ℕ)) → Content

-- a channel: what it holds, and the processes that wait at its two ends
pub record Channel : Type 0 where
  pub content : Content
  pub senders : List Entry
  pub receivers : List Entry

-- the number of records judged so far, the cores, and the partitions and channels by number
pub record State : Type 0 where
  pub count : ℕ
  pub cores : List CoreState
  pub partitions : ℕ → Partition
  pub channels : ℕ → Channel

-- modes

-- whether a mode is NORMAL
abbrev pub is_normal : Mode → Bool
is_normal mode.Normal = true
is_normal _ = false

-- whether a process is the error handler of its partition: in NORMAL it is process 0
abbrev pub is_handler : Partition → ℕ → Bool
is_handler partition number = is_normal partition.mode && nat_eq number 0

-- names of processes

-- whether these are the same process of the same partition
abbrev pub is_same : Who → Who → Bool
is_same a b = nat_eq a.part b.part && nat_eq a.proc b.proc

-- whether a list names this process
abbrev pub is_named : Who → List Who → Bool
is_named who [] = false
is_named who (other ∷ others) = is_same who other || is_named who others

-- whether a list names a process of this partition
abbrev pub names_one_of : ℕ → List Who → Bool
names_one_of partition [] = false
names_one_of partition (who ∷ others) = nat_eq who.part partition || names_one_of partition others

-- processes and objects by number

-- the process or object of this number, if it is created
abbrev pub item_at : {Item : Type 0} → List (ℕ × Item) → ℕ → Option Item
item_at [] number = None
item_at (entry ∷ entries) number = if nat_eq number entry.0 then Some entry.1 else item_at entries number

-- the processes or objects of a kind, each of them changed
abbrev pub each_item : {Item : Type 0} → (ℕ → Item → Item) → List (ℕ × Item) → List (ℕ × Item)
each_item change [] = []
each_item change (entry ∷ entries) = (entry.0, change entry.0 entry.1) ∷ each_item change entries

-- the processes or objects of a kind, with the one of this number changed
abbrev pub change_at : {Item : Type 0} → ℕ → (Item → Item) → List (ℕ × Item) → List (ℕ × Item)
change_at number change items = each_item (λ other item. if nat_eq other number then change item else item) items

-- whether no process or object of a kind has a number
abbrev pub is_free : {Item : Type 0} → List (ℕ × Item) → ℕ → Bool
is_free items number = is_none (item_at items number)

-- the object of the number that a caller gives, if it is created
abbrev pub given_object : {Object : Type 0} → List (ℕ × Object) → ℤ → Option Object
given_object objects (pos number) = item_at objects number
given_object objects (negsuc n) = None

-- the created process of the number that a caller gives; number 0 counts as not created, since nobody created the initialising process
abbrev pub created : Table → ℤ → Option Process
created table (pos zero) = None
created table (pos (suc n)) = item_at table (suc n)
created table (negsuc n) = None

-- objects and ports by their kinds

-- what is created of a kind
abbrev pub ObjectOf : ObjectKind → Type 0
ObjectOf kind.Buffer = Buffer
ObjectOf kind.Blackboard = Blackboard
ObjectOf kind.Semaphore = Semaphore
ObjectOf kind.Event = Event
ObjectOf kind.Mutex = Mutex
ObjectOf kind.SamplingPort = Port
ObjectOf kind.QueuingPort = Port

-- the name of an object or port of a kind
abbrev pub name_in : (kind : ObjectKind) → ObjectOf kind → List ℕ
name_in kind.Buffer buffer = buffer.name
name_in kind.Blackboard blackboard = blackboard.name
name_in kind.Semaphore semaphore = semaphore.name
name_in kind.Event event = event.name
name_in kind.Mutex mutex = mutex.name
name_in kind.SamplingPort port = port.name
name_in kind.QueuingPort port = port.name

-- all that is created of a kind, under the numbers
abbrev pub objects_of : Partition → (kind : ObjectKind) → List (ℕ × ObjectOf kind)
objects_of partition kind.Buffer = partition.buffers
objects_of partition kind.Blackboard = partition.blackboards
objects_of partition kind.Semaphore = partition.semaphores
objects_of partition kind.Event = partition.events
objects_of partition kind.Mutex = partition.mutexes
objects_of partition kind.SamplingPort = partition.sampling_ports
objects_of partition kind.QueuingPort = partition.queuing_ports

-- a partition with other objects of a kind
abbrev pub with_objects : (kind : ObjectKind) → List (ℕ × ObjectOf kind) → Partition → Partition
with_objects kind.Buffer objects partition = record partition { buffers = objects }
with_objects kind.Blackboard objects partition = record partition { blackboards = objects }
with_objects kind.Semaphore objects partition = record partition { semaphores = objects }
with_objects kind.Event objects partition = record partition { events = objects }
with_objects kind.Mutex objects partition = record partition { mutexes = objects }
with_objects kind.SamplingPort objects partition = record partition { sampling_ports = objects }
with_objects kind.QueuingPort objects partition = record partition { queuing_ports = objects }

-- waiting sets

-- whether these are the same kind
abbrev pub is_same_kind : ObjectKind → ObjectKind → Bool
is_same_kind one other = kinds.eq-value.it one other

-- whether these are the same end
abbrev pub is_same_end : End → End → Bool
is_same_end one other = ends.eq-value.it one other

-- the waiting set at this end of the object of a kind and number
abbrev pub set_at : ObjectKind → ℕ → End → WaitingSet
set_at kind number end = record { kind = kind; number = number; end = end }

-- the waiting set at this end of a channel
abbrev pub channel_set : ℕ → End → WaitingSet
channel_set channel end = set_at kind.QueuingPort channel end

-- whether a waiting set is a channel's
abbrev pub is_of_channel : WaitingSet → Bool
is_of_channel wanted = is_same_kind wanted.kind kind.QueuingPort

-- whether a waiting set is one of the object of this kind and number
abbrev pub is_of_object : ObjectKind → ℕ → WaitingSet → Bool
is_of_object kind number wanted = is_same_kind kind wanted.kind && nat_eq number wanted.number

-- whether these are the same waiting set
abbrev pub is_same_set : WaitingSet → WaitingSet → Bool
is_same_set one other = is_of_object one.kind one.number other && is_same_end one.end other.end

-- the entries at an end of an object; an object without that end has none, and the entries at a port are those of its channel
abbrev pub entries_at_end : (kind : ObjectKind) → End → ObjectOf kind → List Entry
entries_at_end kind.Buffer Senders buffer = buffer.senders
entries_at_end kind.Buffer Receivers buffer = buffer.receivers
entries_at_end kind.Blackboard Receivers blackboard = blackboard.readers
entries_at_end kind.Semaphore Receivers semaphore = semaphore.waiters
entries_at_end kind.Event Receivers event = event.waiters
entries_at_end kind.Mutex Receivers mutex = mutex.waiters
entries_at_end _ _ object = []

-- an object with each of its waiting sets changed
abbrev pub with_ends : (kind : ObjectKind) → (End → List Entry → List Entry) → ObjectOf kind → ObjectOf kind
with_ends kind.Buffer change buffer = record buffer { senders = change Senders buffer.senders; receivers = change Receivers buffer.receivers }
with_ends kind.Blackboard change blackboard = record blackboard { readers = change Receivers blackboard.readers }
with_ends kind.Semaphore change semaphore = record semaphore { waiters = change Receivers semaphore.waiters }
with_ends kind.Event change event = record event { waiters = change Receivers event.waiters }
with_ends kind.Mutex change mutex = record mutex { waiters = change Receivers mutex.waiters }
with_ends _ change port = port

-- cores

-- the time of a core, in ticks
abbrev pub time_of : List CoreState → ℕ → ℕ
time_of [] core = 0
time_of (state ∷ states) zero = state.time
time_of (state ∷ states) (suc core) = time_of states core

-- the process to which the last dispatch gave a core, or none if the core is idle
abbrev pub occupant_of : List CoreState → ℕ → Option Who
occupant_of [] core = None
occupant_of (state ∷ states) zero = state.occupant
occupant_of (state ∷ states) (suc core) = occupant_of states core

-- whether this process is the occupant, if there is one
abbrev pub is_occupant : Who → Option Who → Bool
is_occupant who None = false
is_occupant who (Some occupant) = is_same who occupant

-- the cores with one of them changed
abbrev pub at_core : (CoreState → CoreState) → ℕ → List CoreState → List CoreState
at_core change core [] = []
at_core change zero (state ∷ states) = change state ∷ states
at_core change (suc core) (state ∷ states) = state ∷ at_core change core states

-- the cold state

-- the initialising process: ready since this place, on the partition's first core, with priority 0
abbrev pub initialising_process : ℕ → ℕ → Process
initialising_process core place = record {
  name = [];
  base_priority = 0;
  current_priority = 0;
  retained_priority = 0;
  affinity = core;
  period = None;
  time_capacity = None;
  deadline = None;
  last_release = 0;
  alive = true;
  faulted = false;
  suspended = false;
  wait = wait.Nothing;
  ready_position = place;
  due = None;
  called_at = 0;
}

-- the processes with which a partition starts in a mode: its initialising process alone, and in IDLE none
abbrev pub first_processes : Mode → ℕ → ℕ → Table
first_processes mode.Idle core place = []
first_processes _ core place = (0, initialising_process core place) ∷ []

-- the lock that no process owns, and for which none waits
abbrev pub free_lock : Lock
free_lock = record { owner = None; level = 0; waiters = [] }

-- a partition as it starts in a mode at this place: with its first processes and a free lock, and without an error handler, errors, objects
-- and ports   (partition modes, section 2)
abbrev pub started_partition : StartCondition → Mode → Configuration → ℕ → ℕ → Partition
started_partition start mode configuration number place = record {
  mode = mode;
  start = start;
  handler = None;
  errors = [];
  lock = free_lock;
  table = first_processes mode (first_core configuration number) place;
  buffers = [];
  blackboards = [];
  semaphores = [];
  events = [];
  mutexes = [];
  sampling_ports = [];
  queuing_ports = [];
}

-- a partition begins in COLD_START
abbrev pub cold_partition : Configuration → ℕ → Partition
cold_partition configuration number = started_partition NormalStart mode.ColdStart configuration number 0

-- what a channel holds before the first record: nothing
abbrev pub cold_content : Configuration → ℕ → Content
cold_content configuration number = if is_some (queuing_of configuration number) then Queued [] else Sampled None

-- a channel before the first record: empty, whether or not its ports are created
abbrev pub cold_channel : Configuration → ℕ → Channel
cold_channel configuration number = record { content = cold_content configuration number; senders = []; receivers = [] }

-- a core before the first record: no tick has passed, and no dispatch has given it to a process
abbrev pub cold_core : CoreState
cold_core = record { time = 0; occupant = None }

-- the cores before the first record
abbrev pub cold_cores : Configuration → List CoreState
cold_cores configuration = replicate configuration.cores cold_core

-- the state before the first record: all times are 0, all cores idle, all partitions cold, all channels empty
abbrev pub cold_state : Configuration → State
cold_state configuration = record {
  count = 0;
  cores = cold_cores configuration;
  partitions = λ number. cold_partition configuration number;
  channels = λ number. cold_channel configuration number;
}
