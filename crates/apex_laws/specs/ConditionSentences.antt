-- The error conditions of the services, in sentences: one case for each condition of each service, with what holds in the caller's
-- partition. Services that share a condition share its case.
use Rattle.std.specs.Prelude.{◌≡◌, ◌⊎◌, ℕ, ◌*◌, ◌-◌, ◌<◌, ◌≤◌, ℤ, pos, negsuc, ◌<ℤ◌, ◌≤ℤ◌, List, [], length, Option, Some, None, IsTrue, IsFalse, Contains}
use Rattle.apex_types.specs.declared.limits.TheConstants.{GREATEST_LOCK_LEVEL, GREATEST_MAXIMUM, GREATEST_PRIORITY, LONGEST_MESSAGE, LONGEST_REPORT, MOST_MESSAGES}
use Rattle.apex_types.specs.declared.discipline.Discipline.{Discipline}
use Rattle.apex_types.specs.declared.discipline.Discipline.TheVariants as discipline
use Rattle.apex_types.specs.declared.object_kind.NamedKind.{NamedKind}
use Rattle.apex_types.specs.declared.object_kind.NamedKind.TheVariants as named
use Rattle.apex_types.specs.declared.object_kind.ObjectKind.{ObjectKind}
use Rattle.apex_types.specs.declared.object_kind.ObjectKind.TheVariants as kind
use Rattle.apex_types.specs.declared.record.Who.{Who}
use Rattle.apex_types.specs.declared.operation.{BlackboardOperation.BlackboardOperation, BufferOperation.BufferOperation, CallerOperation.CallerOperation, EventOperation.EventOperation, HealthOperation.HealthOperation, LockOperation.LockOperation, MutexOperation.MutexOperation, NewObject.NewObject, ProcessOperation.ProcessOperation, QueuingOperation.QueuingOperation, SamplingOperation.SamplingOperation, SemaphoreOperation.SemaphoreOperation}
use Rattle.apex_types.specs.declared.request.Request.{Request}
use Rattle.apex_types.specs.declared.operation.ObjectOperation.TheVariants as on
use Rattle.apex_types.specs.declared.request.Request.TheVariants as request
use Rattle.apex_types.specs.Requested.{kind_of}
use Rattle.apex_machine.specs.declared.condition.Condition.{Condition}
use Rattle.apex_machine.specs.declared.condition.Condition.TheVariants as condition
use Rattle.apex_machine.specs.declared.state.Direction.{Direction}
use Rattle.apex_machine.specs.declared.state.Direction.TheVariants as direction
use Rattle.apex_machine.specs.declared.state.Mode.TheVariants as mode
use Rattle.apex_machine.specs.declared.state.Process.{Process}
use Rattle.apex_machine.specs.declared.state.Wait.TheVariants as wait
use Rattle.apex_machine.specs.Channels.{QueuingPort, SamplingPort, queuing_port, sampling_port}
use Rattle.apex_machine.specs.Configuration.{Configuration, PartitionLimits, limits_of, object_limit, period_of, process_limit}
use Rattle.apex_machine.specs.DueTimes.{next_release}
use Rattle.apex_machine.specs.State.{Blackboard, Buffer, Mutex, Partition, Port, item_at, name_in, objects_of}
use Rattle.apex_machine.specs.declared.state.ErrorHandler.{ErrorHandler}
use Rattle.apex_laws.specs.DeadlineSentences.{EndsAfter}
use Rattle.apex_laws.specs.ErrorSentences.{IsByHandler}

-- the numbers that a caller gives

-- a number is from the first of these to the second, both included
abbrev pub IsFrom : ℤ → ℤ → ℤ → Type 0
IsFrom least greatest given = (least ≤ℤ given) × (given ≤ℤ greatest)

-- a priority is 1 to 239
abbrev pub IsPriority : ℤ → Type 0
IsPriority given = IsFrom (pos 1) (pos GREATEST_PRIORITY) given

-- a message size is 1 to 8,192 bytes
abbrev pub IsSize : ℤ → Type 0
IsSize given = IsFrom (pos 1) (pos LONGEST_MESSAGE) given

-- a discipline is 0 or 1
abbrev pub IsDiscipline : ℤ → Type 0
IsDiscipline given = IsFrom (pos 0) (pos 1) given

-- a number is a multiple of a period
abbrev pub IsMultipleOf : ℕ → ℤ → Type 0
IsMultipleOf period given = (count : ℕ) × (given ≡ pos (count * period))

-- processes and objects

-- the created process that a number names; number 0 names none, since nobody created the initialising process
pub record IsProcess (partition : Partition) (given : ℤ) (process : Process) : Type 0 where
  pub number : ℕ
  pub is : given ≡ pos number
  pub created : 0 < number
  pub is_member : item_at partition.table number ≡ Some process

-- the created object that a number names
pub record IsObject {Object : Type 0} (objects : List (ℕ × Object)) (given : ℤ) (object : Object) : Type 0 where
  pub number : ℕ
  pub is : given ≡ pos number
  pub is_member : item_at objects number ≡ Some object

-- a number names no created object of a kind
abbrev pub NamesNone : {Object : Type 0} → List (ℕ × Object) → ℤ → Type 0
NamesNone {Object} objects given = (object : Object) → ¬ IsObject objects given object

-- a number names no created process
abbrev pub NamesNoProcess : Partition → ℤ → Type 0
NamesNoProcess partition given = (process : Process) → ¬ IsProcess partition given process

-- a process is periodic if it has a period
abbrev pub IsPeriodic : Process → Type 0
IsPeriodic process = (period : ℕ) × (process.period ≡ Some period)

-- a process is suspended if another process suspended it, or if it suspended itself
abbrev pub IsSuspended : Process → Type 0
IsSuspended process = IsTrue process.suspended ⊎ ((due : Option ℕ) × (process.wait ≡ wait.Suspended due))

-- a process owns the mutex of a number
pub record Owns (partition : Partition) (process held : ℕ) : Type 0 where
  pub mutex : Mutex
  pub is_member : Contains partition.mutexes (held, mutex)
  pub owner : mutex.owner ≡ Some process

-- a process owns the lock of its partition
abbrev pub OwnsLock : Partition → ℕ → Type 0
OwnsLock partition process = partition.lock.owner ≡ Some process

-- the caller may not wait: it is the initialising process, or it owns a mutex or the lock
abbrev pub MayNotWait : Who → Partition → Type 0
MayNotWait who partition = (who.proc ≡ 0) ⊎ ((held : ℕ) × Owns partition who.proc held) ⊎ OwnsLock partition who.proc

-- the caller is a process of its partition
abbrev pub IsCalledBy : Who → Partition → Process → Type 0
IsCalledBy who partition process = item_at partition.table who.proc ≡ Some process

-- the caller is a periodic process
abbrev pub IsCalledByPeriodic : Who → Partition → Type 0
IsCalledByPeriodic who partition = (process : Process) × IsCalledBy who partition process × IsPeriodic process

-- an object or process of a kind has this name
abbrev pub OneIsNamed : {Object : Type 0} → List ℕ → (Object → List ℕ) → List (ℕ × Object) → Type 0
OneIsNamed {Object} name name_of objects = (entry : ℕ × Object) × Contains objects entry × (name_of entry.1 ≡ name)

-- an object or port of this kind has this name
abbrev pub OneOfKindIsNamed : Partition → ObjectKind → List ℕ → Type 0
OneOfKindIsNamed partition kind name = OneIsNamed name (name_in kind) (objects_of partition kind)

-- a process of a partition has this name
abbrev pub OneProcessIsNamed : Partition → List ℕ → Type 0
OneProcessIsNamed partition name = OneIsNamed name (λ (process : Process). process.name) partition.table

-- a process, or an object or port of this kind, has this name
abbrev pub OneHasName : Partition → NamedKind → List ℕ → Type 0
OneHasName partition named.Process name = OneProcessIsNamed partition name
OneHasName partition (named.Object kind) name = OneOfKindIsNamed partition kind name

-- what the configuration says

-- a number means a direction: 0 a source, 1 a destination
abbrev pub IsDirection : Direction → ℤ → Type 0
IsDirection direction.Source given = given ≡ pos 0
IsDirection direction.Destination given = given ≡ pos 1

-- a number means a discipline: 0 FIFO, 1 priority
abbrev pub TellsDiscipline : Discipline → ℤ → Type 0
TellsDiscipline discipline.Fifo given = given ≡ pos 0
TellsDiscipline discipline.Priority given = given ≡ pos 1

-- a core of a partition
pub record IsCoreOf (configuration : Configuration) (partition : ℕ) (given : ℤ) : Type 0 where
  pub core : ℕ
  pub is : given ≡ pos core
  pub limits : PartitionLimits
  pub of : limits_of configuration partition ≡ Some limits
  pub listed : Contains limits.cores core

-- a sampling port of this name is configured for the partition with this size and direction, and as a destination with this refresh
-- period
pub record IsSamplingPort (configuration : Configuration) (partition : ℕ) (name : List ℕ) (size way refresh : ℤ) : Type 0 where
  pub port : SamplingPort
  pub configured : sampling_port configuration partition name ≡ Some port
  pub has_size : size ≡ pos port.size
  pub has_direction : IsDirection port.direction way
  pub has_refresh : port.direction ≡ direction.Destination → refresh ≡ pos port.refresh

-- a queuing port of this name is configured for the partition with this size, number of messages, direction and discipline
pub record IsQueuingPort (configuration : Configuration) (partition : ℕ) (name : List ℕ) (size capacity way order : ℤ) : Type 0 where
  pub port : QueuingPort
  pub configured : queuing_port configuration partition name ≡ Some port
  pub has_size : size ≡ pos port.size
  pub has_capacity : capacity ≡ pos port.capacity
  pub has_direction : IsDirection port.direction way
  pub has_discipline : TellsDiscipline port.discipline order

-- the shared conditions, by service

-- the process or the object that a service names is not created
abbrev pub NamesNothing : Partition → Request → Type 0
NamesNothing partition (request.Process process operation) = NamesNoProcess partition process
NamesNothing partition (request.Object buffer (on.Buffer operation)) = NamesNone partition.buffers buffer
NamesNothing partition (request.Object blackboard (on.Blackboard operation)) = NamesNone partition.blackboards blackboard
NamesNothing partition (request.Object semaphore (on.Semaphore operation)) = NamesNone partition.semaphores semaphore
NamesNothing partition (request.Object event (on.Event operation)) = NamesNone partition.events event
NamesNothing partition (request.Object mutex (on.Mutex operation)) = NamesNone partition.mutexes mutex
NamesNothing partition (request.SamplingPort port operation) = NamesNone partition.sampling_ports port
NamesNothing partition (request.QueuingPort port operation) = NamesNone partition.queuing_ports port
NamesNothing partition (request.GetStatus kind object) = NamesNone (objects_of partition kind) object
NamesNothing partition _ = ⊥

-- a service that may wait at an object or a port, with this time-out
abbrev pub WaitsFor : Request → ℤ → Type 0
WaitsFor (request.Object buffer (on.Buffer (BufferOperation.Send length given message))) time_out = time_out ≡ given
WaitsFor (request.Object buffer (on.Buffer (BufferOperation.Receive given))) time_out = time_out ≡ given
WaitsFor (request.Object blackboard (on.Blackboard (BlackboardOperation.Read given))) time_out = time_out ≡ given
WaitsFor (request.Object semaphore (on.Semaphore (SemaphoreOperation.Wait given))) time_out = time_out ≡ given
WaitsFor (request.Object event (on.Event (EventOperation.Wait given))) time_out = time_out ≡ given
WaitsFor (request.QueuingPort port (QueuingOperation.Send length given message)) time_out = time_out ≡ given
WaitsFor (request.QueuingPort port (QueuingOperation.Receive given)) time_out = time_out ≡ given
WaitsFor _ time_out = ⊥

-- a service that is given a time-out: SUSPEND_SELF, ACQUIRE_MUTEX, and those that may wait at an object or a port
abbrev pub HasTimeOut : Request → ℤ → Type 0
HasTimeOut (request.Caller (CallerOperation.SuspendSelf given)) time_out = time_out ≡ given
HasTimeOut (request.Object mutex (on.Mutex (MutexOperation.Acquire given))) time_out = time_out ≡ given
HasTimeOut asked time_out = WaitsFor asked time_out

-- a service that sets a partition up: a creation, also of an error handler, CONFIGURE_ERROR_HANDLER or INITIALIZE_PROCESS_CORE_AFFINITY
abbrev pub IsSetUp : Request → Type 0
IsSetUp (request.CreateProcess name priority period time_capacity) = Unit {0}
IsSetUp (request.Process process (ProcessOperation.InitializeCoreAffinity core)) = Unit {0}
IsSetUp (request.Create name object) = Unit {0}
IsSetUp (request.Health HealthOperation.CreateHandler) = Unit {0}
IsSetUp (request.Health (HealthOperation.ConfigureHandler concurrency core)) = Unit {0}
IsSetUp _ = ⊥

-- the name is taken in the kind that a service creates
abbrev pub NameIsTaken : Partition → Request → Type 0
NameIsTaken partition (request.CreateProcess name priority period time_capacity) = OneProcessIsNamed partition name
NameIsTaken partition (request.Create name object) = OneOfKindIsNamed partition (kind_of object) name
NameIsTaken partition _ = ⊥

-- as many objects of a kind are created as the partition of this number may create; ports have no such limit, since each one is configured
abbrev pub KindIsFull : Configuration → ℕ → Partition → ObjectKind → Type 0
KindIsFull configuration number partition kind.Buffer = object_limit configuration (λ limits. limits.buffers) number ≤ length partition.buffers
KindIsFull configuration number partition kind.Blackboard = object_limit configuration (λ limits. limits.blackboards) number ≤ length partition.blackboards
KindIsFull configuration number partition kind.Semaphore = object_limit configuration (λ limits. limits.semaphores) number ≤ length partition.semaphores
KindIsFull configuration number partition kind.Event = object_limit configuration (λ limits. limits.events) number ≤ length partition.events
KindIsFull configuration number partition kind.Mutex = object_limit configuration (λ limits. limits.mutexes) number ≤ length partition.mutexes
KindIsFull configuration number partition _ = ⊥

-- of the kind that a service creates, as many are created as the partition may create, not counting the initialising process
abbrev pub AllAreCreated : Configuration → ℕ → Partition → Request → Type 0
AllAreCreated configuration number partition (request.CreateProcess name priority period time_capacity) = process_limit configuration number ≤ length partition.table - 1
AllAreCreated configuration number partition (request.Create name object) = KindIsFull configuration number partition (kind_of object)
AllAreCreated configuration number partition _ = ⊥

-- an error condition of a service holds for a call of this process in this state of its partition. STOP_SELF, GET_TIME and
-- GET_PARTITION_STATUS have none; CREATE_EVENT, CLEAR_BLACKBOARD, SIGNAL_SEMAPHORE, SET_EVENT, RESET_EVENT, GET_PROCESS_STATUS,
-- GET_PROCESS_MUTEX_STATE and the waits for a message, a semaphore or an event have only shared ones
module _ (configuration : Configuration) (now : ℕ) (who : Who) (partition : Partition) where
  pub data HasCondition : Request → Condition → Type 0 where
    -- shared conditions
    names_nothing : {asked : Request} → NamesNothing partition asked → HasCondition asked condition.NotCreated
    time_out_below : {asked : Request} (time_out : ℤ) → HasTimeOut asked time_out → time_out <ℤ negsuc 0 → HasCondition asked condition.TimeOutOutOfRange
    may_not_wait : {asked : Request} (time_out : ℤ) → WaitsFor asked time_out → ¬ (time_out ≡ pos 0) → MayNotWait who partition → HasCondition asked condition.MayNotWait
    in_normal : {asked : Request} → IsSetUp asked → partition.mode ≡ mode.Normal → HasCondition asked condition.InNormal
    name_taken : {asked : Request} → NameIsTaken partition asked → HasCondition asked condition.NameTaken
    all_created : {asked : Request} → AllAreCreated configuration who.part partition asked → HasCondition asked condition.AllCreated
    -- CREATE_PROCESS: a priority out of range; a period that is neither -1 nor above 0; a period above 0 that is not a multiple of the
    -- partition's; a time capacity that is neither -1 nor above 0; one above the period, if both are above 0
    create_process_priority : {name : List ℕ} {priority period time_capacity : ℤ} → ¬ IsPriority priority
        → HasCondition (request.CreateProcess name priority period time_capacity) condition.PriorityOutOfRange
    create_process_period : {name : List ℕ} {priority period time_capacity : ℤ} → ¬ (period ≡ negsuc 0) → period ≤ℤ pos 0
        → HasCondition (request.CreateProcess name priority period time_capacity) condition.PeriodOutOfRange
    create_process_multiple : {name : List ℕ} {priority period time_capacity : ℤ} → pos 0 <ℤ period → ¬ IsMultipleOf (period_of configuration who.part) period
        → HasCondition (request.CreateProcess name priority period time_capacity) condition.PeriodNotMultiple
    create_process_capacity : {name : List ℕ} {priority period time_capacity : ℤ} → ¬ (time_capacity ≡ negsuc 0) → time_capacity ≤ℤ pos 0
        → HasCondition (request.CreateProcess name priority period time_capacity) condition.TimeCapacityOutOfRange
    create_process_above : {name : List ℕ} {priority period time_capacity : ℤ} → pos 0 <ℤ period → period <ℤ time_capacity
        → HasCondition (request.CreateProcess name priority period time_capacity) condition.TimeCapacityAbovePeriod
    -- INITIALIZE_PROCESS_CORE_AFFINITY: a core that is not one of the partition's
    affinity_core : {process core : ℤ} → ¬ IsCoreOf configuration who.part core → HasCondition (request.Process process (ProcessOperation.InitializeCoreAffinity core)) condition.CoreNotOfPartition
    -- START: a process that is not dormant
    start_alive : {process : ℤ} (found : Process) → IsProcess partition process found → IsTrue found.alive → HasCondition (request.Process process ProcessOperation.Start) condition.AlreadyStarted
    -- DELAYED_START: a process that is not dormant; a delay below 0; a delay that is not below the period of a periodic process
    delayed_start_alive : {process delay : ℤ} (found : Process) → IsProcess partition process found → IsTrue found.alive
        → HasCondition (request.Process process (ProcessOperation.DelayedStart delay)) condition.AlreadyStarted
    delayed_start_delay : {process delay : ℤ} → delay <ℤ pos 0 → HasCondition (request.Process process (ProcessOperation.DelayedStart delay)) condition.DelayOutOfRange
    delayed_start_period : {process delay : ℤ} (found : Process) (period : ℕ) → IsProcess partition process found → found.period ≡ Some period → pos period ≤ℤ delay
        → HasCondition (request.Process process (ProcessOperation.DelayedStart delay)) condition.DelayNotBelowPeriod
    -- STOP: the caller's own number; a dormant process
    stop_itself : {process : ℤ} → process ≡ pos who.proc → HasCondition (request.Process process ProcessOperation.Stop) condition.NamesItself
    stop_dormant : {process : ℤ} (found : Process) → IsProcess partition process found → IsFalse found.alive → HasCondition (request.Process process ProcessOperation.Stop) condition.AlreadyDormant
    -- SUSPEND: the caller's own number; a dormant process; a periodic one; one that is suspended; one that owns the lock
    suspend_itself : {process : ℤ} → process ≡ pos who.proc → HasCondition (request.Process process ProcessOperation.Suspend) condition.NamesItself
    suspend_dormant : {process : ℤ} (found : Process) → IsProcess partition process found → IsFalse found.alive → HasCondition (request.Process process ProcessOperation.Suspend) condition.Dormant
    suspend_periodic : {process : ℤ} (found : Process) → IsProcess partition process found → IsPeriodic found → HasCondition (request.Process process ProcessOperation.Suspend) condition.Periodic
    suspend_suspended : {process : ℤ} (found : Process) → IsProcess partition process found → IsSuspended found → HasCondition (request.Process process ProcessOperation.Suspend) condition.AlreadySuspended
    suspend_lock_owner : {process : ℤ} (found : Process) (is : IsProcess partition process found) → OwnsLock partition is.number → HasCondition (request.Process process ProcessOperation.Suspend) condition.ProcessOwnsLock
    -- SUSPEND_SELF: a periodic process; one that may not wait
    suspend_self_periodic : {time_out : ℤ} → IsCalledByPeriodic who partition → HasCondition (request.Caller (CallerOperation.SuspendSelf time_out)) condition.PeriodicCaller
    suspend_self_waits : {time_out : ℤ} → MayNotWait who partition → HasCondition (request.Caller (CallerOperation.SuspendSelf time_out)) condition.MayNotWait
    -- RESUME: the caller's own number; a dormant process; a periodic one; one that is alive and not suspended
    resume_itself : {process : ℤ} → process ≡ pos who.proc → HasCondition (request.Process process ProcessOperation.Resume) condition.NamesItself
    resume_dormant : {process : ℤ} (found : Process) → IsProcess partition process found → IsFalse found.alive → HasCondition (request.Process process ProcessOperation.Resume) condition.Dormant
    resume_periodic : {process : ℤ} (found : Process) → IsProcess partition process found → IsPeriodic found → HasCondition (request.Process process ProcessOperation.Resume) condition.Periodic
    resume_running : {process : ℤ} (found : Process) → IsProcess partition process found → IsTrue found.alive → ¬ IsSuspended found
        → HasCondition (request.Process process ProcessOperation.Resume) condition.NotSuspended
    -- SET_PRIORITY: a priority out of range; a dormant process
    set_priority_priority : {process priority : ℤ} → ¬ IsPriority priority → HasCondition (request.Process process (ProcessOperation.SetPriority priority)) condition.PriorityOutOfRange
    set_priority_dormant : {process priority : ℤ} (found : Process) → IsProcess partition process found → IsFalse found.alive
        → HasCondition (request.Process process (ProcessOperation.SetPriority priority)) condition.Dormant
    -- GET_MY_ID: the initialising process
    get_my_id_initialising : who.proc ≡ 0 → HasCondition (request.Caller CallerOperation.GetMyId) condition.InitialisingCaller
    -- TIMED_WAIT: a delay below 0; a process that may not wait
    timed_wait_delay : {ticks : ℤ} → ticks <ℤ pos 0 → HasCondition (request.Caller (CallerOperation.TimedWait ticks)) condition.DelayOutOfRange
    timed_wait_waits : {ticks : ℤ} → MayNotWait who partition → HasCondition (request.Caller (CallerOperation.TimedWait ticks)) condition.MayNotWait
    -- PERIODIC_WAIT: a process that is not periodic; one that may not wait
    periodic_wait_aperiodic : ¬ IsCalledByPeriodic who partition → HasCondition (request.Caller CallerOperation.PeriodicWait) condition.AperiodicCaller
    periodic_wait_waits : MayNotWait who partition → HasCondition (request.Caller CallerOperation.PeriodicWait) condition.MayNotWait
    -- SET_PARTITION_MODE: a mode that is not 0 to 3; NORMAL, which is 3, in NORMAL; WARM_START, which is 2, in COLD_START
    set_mode_none : {next : ℤ} → ¬ IsFrom (pos 0) (pos 3) next → HasCondition (request.SetPartitionMode next) condition.ModeOutOfRange
    set_mode_normal : {next : ℤ} → next ≡ pos 3 → partition.mode ≡ mode.Normal → HasCondition (request.SetPartitionMode next) condition.AlreadyNormal
    set_mode_warm : {next : ℤ} → next ≡ pos 2 → partition.mode ≡ mode.ColdStart → HasCondition (request.SetPartitionMode next) condition.WarmStartInColdStart
    -- CREATE_BUFFER: a message size out of range; a number of messages that is not 1 to 1,024; a discipline out of range
    create_buffer_size : {name : List ℕ} {size capacity given : ℤ} → ¬ IsSize size → HasCondition (request.Create name (NewObject.Buffer size capacity given)) condition.SizeOutOfRange
    create_buffer_capacity : {name : List ℕ} {size capacity given : ℤ} → ¬ IsFrom (pos 1) (pos MOST_MESSAGES) capacity
        → HasCondition (request.Create name (NewObject.Buffer size capacity given)) condition.CapacityOutOfRange
    create_buffer_discipline : {name : List ℕ} {size capacity given : ℤ} → ¬ IsDiscipline given → HasCondition (request.Create name (NewObject.Buffer size capacity given)) condition.DisciplineOutOfRange
    -- SEND_BUFFER: an empty message; one that is longer than the buffer's size
    send_buffer_empty : {buffer length time_out : ℤ} {message : List ℕ} → length <ℤ pos 1 → HasCondition (request.Object buffer (on.Buffer (BufferOperation.Send length time_out message))) condition.EmptyMessage
    send_buffer_long : {buffer length time_out : ℤ} {message : List ℕ} (found : Buffer) → IsObject partition.buffers buffer found → pos found.size <ℤ length
        → HasCondition (request.Object buffer (on.Buffer (BufferOperation.Send length time_out message))) condition.LongerThanObject
    -- CREATE_BLACKBOARD: a message size out of range
    create_blackboard_size : {name : List ℕ} {size : ℤ} → ¬ IsSize size → HasCondition (request.Create name (NewObject.Blackboard size)) condition.SizeOutOfRange
    -- DISPLAY_BLACKBOARD: an empty message; one that is longer than the blackboard's size
    display_empty : {blackboard length : ℤ} {message : List ℕ} → length <ℤ pos 1 → HasCondition (request.Object blackboard (on.Blackboard (BlackboardOperation.Display length message))) condition.EmptyMessage
    display_long : {blackboard length : ℤ} {message : List ℕ} (found : Blackboard) → IsObject partition.blackboards blackboard found → pos found.size <ℤ length
        → HasCondition (request.Object blackboard (on.Blackboard (BlackboardOperation.Display length message))) condition.LongerThanObject
    -- CREATE_SEMAPHORE: a maximum that is not 1 to 32,767; a value that is not 0 to the maximum; a discipline out of range
    create_semaphore_maximum : {name : List ℕ} {value maximum given : ℤ} → ¬ IsFrom (pos 1) (pos GREATEST_MAXIMUM) maximum
        → HasCondition (request.Create name (NewObject.Semaphore value maximum given)) condition.MaximumOutOfRange
    create_semaphore_value : {name : List ℕ} {value maximum given : ℤ} → ¬ IsFrom (pos 0) maximum value
        → HasCondition (request.Create name (NewObject.Semaphore value maximum given)) condition.ValueOutOfRange
    create_semaphore_discipline : {name : List ℕ} {value maximum given : ℤ} → ¬ IsDiscipline given → HasCondition (request.Create name (NewObject.Semaphore value maximum given)) condition.DisciplineOutOfRange
    -- CREATE_MUTEX: a priority out of range; a discipline out of range
    create_mutex_priority : {name : List ℕ} {priority given : ℤ} → ¬ IsPriority priority → HasCondition (request.Create name (NewObject.Mutex priority given)) condition.PriorityOutOfRange
    create_mutex_discipline : {name : List ℕ} {priority given : ℤ} → ¬ IsDiscipline given → HasCondition (request.Create name (NewObject.Mutex priority given)) condition.DisciplineOutOfRange
    -- ACQUIRE_MUTEX: the initialising process; the owner of another mutex; a process whose current priority is above the mutex's; the owner of
    -- the lock
    acquire_initialising : {mutex time_out : ℤ} → who.proc ≡ 0 → HasCondition (request.Object mutex (on.Mutex (MutexOperation.Acquire time_out))) condition.InitialisingCaller
    acquire_second : {mutex time_out : ℤ} (held : ℕ) → Owns partition who.proc held → ¬ (mutex ≡ pos held) → HasCondition (request.Object mutex (on.Mutex (MutexOperation.Acquire time_out))) condition.OwnsAnother
    acquire_above : {mutex time_out : ℤ} (found : Mutex) (process : Process) → IsObject partition.mutexes mutex found → IsCalledBy who partition process
        → found.priority < process.current_priority → HasCondition (request.Object mutex (on.Mutex (MutexOperation.Acquire time_out))) condition.AboveCeiling
    acquire_lock_owner : {mutex time_out : ℤ} → OwnsLock partition who.proc → HasCondition (request.Object mutex (on.Mutex (MutexOperation.Acquire time_out))) condition.OwnsLock
    -- RELEASE_MUTEX: a caller that is not the owner
    release_not_owner : {mutex : ℤ} (found : Mutex) → IsObject partition.mutexes mutex found → ¬ (found.owner ≡ Some who.proc) → HasCondition (request.Object mutex (on.Mutex MutexOperation.Release)) condition.NotOwner
    -- RESET_MUTEX: a number that names no created process; a created process that does not own the mutex
    reset_no_process : {mutex process : ℤ} → NamesNoProcess partition process → HasCondition (request.Object mutex (on.Mutex (MutexOperation.Reset process))) condition.NoSuchProcess
    reset_not_owner : {mutex process : ℤ} (found : Mutex) (named : Process) (is : IsProcess partition process named) → IsObject partition.mutexes mutex found
        → ¬ (found.owner ≡ Some is.number) → HasCondition (request.Object mutex (on.Mutex (MutexOperation.Reset process))) condition.ProcessNotOwner
    -- CREATE_SAMPLING_PORT, CREATE_QUEUING_PORT: no such port is configured
    create_sampling_port : {name : List ℕ} {size way refresh : ℤ} → ¬ IsSamplingPort configuration who.part name size way refresh
        → HasCondition (request.Create name (NewObject.SamplingPort size way refresh)) condition.NotAsConfigured
    create_queuing_port : {name : List ℕ} {size capacity way order : ℤ} → ¬ IsQueuingPort configuration who.part name size capacity way order
        → HasCondition (request.Create name (NewObject.QueuingPort size capacity way order)) condition.NotAsConfigured
    -- WRITE_SAMPLING_MESSAGE: an empty message; one that is longer than the port's size; a port that is not a source
    write_empty : {port length : ℤ} {message : List ℕ} → length <ℤ pos 1 → HasCondition (request.SamplingPort port (SamplingOperation.Write length message)) condition.EmptyMessage
    write_long : {port length : ℤ} {message : List ℕ} (found : Port) → IsObject partition.sampling_ports port found → pos found.size <ℤ length
        → HasCondition (request.SamplingPort port (SamplingOperation.Write length message)) condition.LongerThanPort
    write_no_source : {port length : ℤ} {message : List ℕ} (found : Port) → IsObject partition.sampling_ports port found → ¬ (found.direction ≡ direction.Source)
        → HasCondition (request.SamplingPort port (SamplingOperation.Write length message)) condition.NotSource
    -- READ_SAMPLING_MESSAGE: a port that is not a destination
    read_no_destination : {port : ℤ} (found : Port) → IsObject partition.sampling_ports port found → ¬ (found.direction ≡ direction.Destination)
        → HasCondition (request.SamplingPort port SamplingOperation.Read) condition.NotDestination
    -- SEND_QUEUING_MESSAGE: an empty message; one that is longer than the port's size; a port that is not a source
    send_empty : {port length time_out : ℤ} {message : List ℕ} → length <ℤ pos 1 → HasCondition (request.QueuingPort port (QueuingOperation.Send length time_out message)) condition.EmptyMessage
    send_long : {port length time_out : ℤ} {message : List ℕ} (found : Port) → IsObject partition.queuing_ports port found → pos found.size <ℤ length
        → HasCondition (request.QueuingPort port (QueuingOperation.Send length time_out message)) condition.LongerThanPort
    send_no_source : {port length time_out : ℤ} {message : List ℕ} (found : Port) → IsObject partition.queuing_ports port found → ¬ (found.direction ≡ direction.Source)
        → HasCondition (request.QueuingPort port (QueuingOperation.Send length time_out message)) condition.NotSource
    -- RECEIVE_QUEUING_MESSAGE: a port that is not a destination
    receive_no_destination : {port time_out : ℤ} (found : Port) → IsObject partition.queuing_ports port found → ¬ (found.direction ≡ direction.Destination)
        → HasCondition (request.QueuingPort port (QueuingOperation.Receive time_out)) condition.NotDestination
    -- CLEAR_QUEUING_PORT: a port that is not a destination
    clear_no_destination : {port : ℤ} (found : Port) → IsObject partition.queuing_ports port found → ¬ (found.direction ≡ direction.Destination)
        → HasCondition (request.QueuingPort port QueuingOperation.Clear) condition.NotDestination
    -- GET_PROCESS_ID, GET_BUFFER_ID and its counterparts: no process, or nothing of the kind, has the name
    get_id_unnamed : {of : NamedKind} {name : List ℕ} → ¬ OneHasName partition of name → HasCondition (request.GetId of name) condition.NoSuchName
    -- REPORT_APPLICATION_MESSAGE: a length that is not 0 to 128 bytes
    report_length : {length : ℤ} {message : List ℕ} → ¬ IsFrom (pos 0) (pos LONGEST_REPORT) length → HasCondition (request.Health (HealthOperation.ReportMessage length message)) condition.LengthOutOfRange
    -- CREATE_ERROR_HANDLER: a handler that is created already
    handler_created : (handler : ErrorHandler) → partition.handler ≡ Some handler → HasCondition (request.Health HealthOperation.CreateHandler) condition.HandlerCreated
    -- CONFIGURE_ERROR_HANDLER: no handler that is created; a concurrency that is neither 0 nor 1; a core that is not the partition's
    configure_none : {concurrency core : ℤ} → partition.handler ≡ None → HasCondition (request.Health (HealthOperation.ConfigureHandler concurrency core)) condition.NoHandler
    configure_concurrency : {concurrency core : ℤ} → ¬ IsFrom (pos 0) (pos 1) concurrency
        → HasCondition (request.Health (HealthOperation.ConfigureHandler concurrency core)) condition.ConcurrencyOutOfRange
    configure_core : {concurrency core : ℤ} → ¬ IsCoreOf configuration who.part core
        → HasCondition (request.Health (HealthOperation.ConfigureHandler concurrency core)) condition.HandlerCoreNotOfPartition
    -- RAISE_APPLICATION_ERROR: a number that is not that of APPLICATION_ERROR; a length that is not 0 to 128 bytes
    raise_other : {given length : ℤ} {message : List ℕ} → ¬ (given ≡ pos 1) → HasCondition (request.Health (HealthOperation.RaiseError given length message)) condition.ErrorNotOfApplication
    raise_length : {given length : ℤ} {message : List ℕ} → ¬ IsFrom (pos 0) (pos LONGEST_REPORT) length
        → HasCondition (request.Health (HealthOperation.RaiseError given length message)) condition.LengthOutOfRange
    -- GET_ERROR_STATUS: a caller that is not the error handler; no error in the list
    status_not_handler : ¬ IsByHandler partition who.proc → HasCondition (request.Health HealthOperation.GetErrorStatus) condition.NotHandler
    status_none : partition.errors ≡ [] → HasCondition (request.Health HealthOperation.GetErrorStatus) condition.NoErrorListed
    -- LOCK_PREEMPTION: a mode other than NORMAL; the initialising process; the owner of the lock at level 16; the owner of a mutex
    lock_before_normal : ¬ (partition.mode ≡ mode.Normal) → HasCondition (request.Preemption LockOperation.Lock) condition.NotNormal
    lock_initialising : who.proc ≡ 0 → HasCondition (request.Preemption LockOperation.Lock) condition.NotForInitialising
    lock_greatest : OwnsLock partition who.proc → GREATEST_LOCK_LEVEL ≤ partition.lock.level → HasCondition (request.Preemption LockOperation.Lock) condition.LevelIsGreatest
    lock_mutex_owner : (held : ℕ) → Owns partition who.proc held → HasCondition (request.Preemption LockOperation.Lock) condition.OwnsMutex
    -- UNLOCK_PREEMPTION: a mode other than NORMAL; the initialising process; a caller that does not own the lock
    unlock_before_normal : ¬ (partition.mode ≡ mode.Normal) → HasCondition (request.Preemption LockOperation.Unlock) condition.NotNormal
    unlock_initialising : who.proc ≡ 0 → HasCondition (request.Preemption LockOperation.Unlock) condition.NotForInitialising
    unlock_not_owner : ¬ OwnsLock partition who.proc → HasCondition (request.Preemption LockOperation.Unlock) condition.NotLockOwner
    -- REPLENISH: a mode other than NORMAL; the initialising process; a budget that is neither -1 nor above 0; a periodic process whose budget
    -- ends after its next release
    replenish_before_normal : {budget : ℤ} → ¬ (partition.mode ≡ mode.Normal) → HasCondition (request.Caller (CallerOperation.Replenish budget)) condition.NotNormal
    replenish_initialising : {budget : ℤ} → who.proc ≡ 0 → HasCondition (request.Caller (CallerOperation.Replenish budget)) condition.NotForInitialising
    replenish_budget : {budget : ℤ} → ¬ (budget ≡ negsuc 0) → budget ≤ℤ pos 0 → HasCondition (request.Caller (CallerOperation.Replenish budget)) condition.BudgetOutOfRange
    replenish_beyond : {budget : ℤ} (process : Process) → IsCalledBy who partition process → IsPeriodic process → EndsAfter now budget (next_release process)
        → HasCondition (request.Caller (CallerOperation.Replenish budget)) condition.BudgetAboveRelease
