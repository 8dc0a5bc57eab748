-- What a whole record changes, and that nothing else changes, in sentences.
use Rattle.std.specs.Prelude.{◌≡◌, ◌⊎◌, ℕ, ℤ, pos, ◌+◌, List, [], ◌∷◌, ◌++◌, length, Option, Some, None, IsTrue, IsFalse, if◌then◌else◌}
use Rattle.apex_types.specs.declared.code.Code.{Code}
use Rattle.apex_types.specs.declared.record.Call.{Call as CallRecord}
use Rattle.apex_types.specs.declared.error.ErrorCode.{ErrorCode}
use Rattle.apex_types.specs.declared.error.ErrorCode.TheVariants as error
use Rattle.apex_types.specs.declared.record.Crossing.{Crossing}
use Rattle.apex_types.specs.declared.record.ErrorReport.{ErrorReport}
use Rattle.apex_types.specs.declared.record.Out.TheVariants as out
use Rattle.apex_types.specs.declared.record.Who.{Who}
use Rattle.apex_types.specs.declared.operation.{CallerOperation.CallerOperation, HealthOperation.HealthOperation, LockOperation.LockOperation, ProcessOperation.ProcessOperation}
use Rattle.apex_types.specs.declared.request.Request.{Request}
use Rattle.apex_types.specs.declared.request.Request.TheVariants as request
use Rattle.apex_types.specs.declared.service.Service.{Service}
use Rattle.apex_types.specs.declared.shape.End.TheVariants.{Senders, Receivers}
use Rattle.apex_machine.specs.declared.condition.Condition.{Condition}
use Rattle.apex_machine.specs.declared.state.CoreState.{CoreState}
use Rattle.apex_machine.specs.declared.state.Entry.{Entry}
use Rattle.apex_machine.specs.declared.state.Mode.{Mode}
use Rattle.apex_machine.specs.declared.state.Mode.TheVariants as mode
use Rattle.apex_machine.specs.declared.state.Process.{Process}
use Rattle.apex_machine.specs.declared.state.StartCondition.TheVariants.{ErrorRestart, PartitionRestart}
use Rattle.apex_machine.specs.declared.state.Restart.{Restart}
use Rattle.apex_machine.specs.declared.state.WaitingSet.{WaitingSet}
use Rattle.apex_machine.specs.After.{each_set, is_done, mode_by, objects_by}
use Rattle.apex_machine.specs.Answer.{Effect, HasValues, NamesExactly}
use Rattle.apex_machine.specs.Arguments.{capacity_given, natural_of, period_given}
use Rattle.apex_machine.specs.Choice.{IsReady}
use Rattle.apex_machine.specs.Configuration.{Configuration, first_core, has_partition, period_of}
use Rattle.apex_machine.specs.Ports.{Use, use_of}
use Rattle.apex_machine.specs.Locks.{enters_lock}
use Rattle.apex_machine.specs.State.{Channel, Content, Lock, Partition, State, free_lock, Table, is_named, occupant_of, item_at, time_of, channel_set}
use Rattle.apex_machine.specs.Step.{IsCodeOf}
use Rattle.apex_machine.specs.Waiting.{ends_wait, enters, entry_of, stops, message_of}
use Rattle.apex_laws.specs.Laws.{entries_at}
use Rattle.apex_laws.specs.ObjectSentences.{IsLocking, IsStoppedOwner, IsUnlocking, IsUse}
use Rattle.apex_laws.specs.ErrorSentences.{ErrorRestartsIn, IsAfterError, IsHandlerAfter, IsListAfter, IsListAfterError, IsRestartingError}
use Rattle.apex_laws.specs.PartLaws.{OnlyErrorsChange, OnlyProcessesChange}
use Rattle.apex_laws.specs.DeadlineSentences.{HasMissed}
use Rattle.apex_laws.specs.ProcessSentences.{IsCaller, IsCreated, IsDue, IsReleased, IsSetBy, IsStopped, IsWoken}

-- processes of a state

-- the process of a partition by its number, if there is one
abbrev pub process_in : State → Who → Option Process
process_in state who = item_at (state.partitions who.part).table who.proc

-- this process exists in the state, and in the next state it has changed in this way
pub record Turns (Change : Process → Process → Type 0) (state next : State) (who : Who) : Type 0 where
  pub old : Process
  pub new : Process
  pub before : process_in state who ≡ Some old
  pub after : process_in next who ≡ Some new
  pub change : Change old new

-- this process is as before
abbrev pub Stays : State → State → Who → Type 0
Stays state next who = process_in next who ≡ process_in state who

-- partitions and channels

-- a partition is as before, except for its processes
abbrev pub RestStays : State → State → ℕ → Type 0
RestStays state next number = OnlyProcessesChange (state.partitions number) (next.partitions number)

-- a partition's lock, objects and ports without the processes that wait
abbrev pub emptied : Partition → Partition
emptied partition = each_set (λ wanted entries. []) (record partition { table = []; lock = record partition.lock { waiters = [] } })

-- a partition's mode, lock, error handler, objects and ports are as before, except for its processes and for those that wait
abbrev pub ObjectsStay : State → State → ℕ → Type 0
ObjectsStay state next number = emptied (next.partitions number) ≡ emptied (state.partitions number)

-- two partitions have the same objects, ports and start condition, except for the processes that wait
abbrev pub ObjectsAre : Partition → Partition → Type 0
ObjectsAre one other = emptied (record one { mode = other.mode; handler = other.handler; errors = other.errors; lock = other.lock }) ≡ emptied other

-- every channel is as before
abbrev pub ChannelsStay : State → State → Type 0
ChannelsStay state next = (number : ℕ) → next.channels number ≡ state.channels number

-- waiting sets

-- entries whose processes do not leave stay in the set, in their order
abbrev pub KeepsOnly : (Who → Type 0) → List Entry → List Entry → Type 0
KeepsOnly Leaves [] new = new ≡ []
KeepsOnly Leaves (entry ∷ entries) new =
    (Leaves entry.who × KeepsOnly Leaves entries new)
    ⊎ ((rest : List Entry) × (¬ Leaves entry.who) × (new ≡ entry ∷ rest) × KeepsOnly Leaves entries rest)

-- a set after a call: each process whose wait the call ends leaves, and a caller that waits in the set enters at the end
pub record IsSetAfterCall (place : ℕ) (call : CallRecord) (wanted : WaitingSet) (old new : List Entry) : Type 0 where
  pub rest : List Entry
  pub kept : KeepsOnly (λ who. IsTrue (ends_wait call who)) old rest
  pub entered : (IsTrue (enters call wanted) × (new ≡ rest ++ entry_of place call ∷ [])) ⊎ (IsFalse (enters call wanted) × (new ≡ rest))

-- the waiting set of a lock after a call: each process whose wait the call ends leaves, and a caller that waits for the lock enters at the end
pub record IsLockSetAfterCall (place : ℕ) (call : CallRecord) (old new : List Entry) : Type 0 where
  pub rest : List Entry
  pub kept : KeepsOnly (λ who. IsTrue (ends_wait call who)) old rest
  pub entered : (IsTrue (enters_lock call) × (new ≡ rest ++ entry_of place call ∷ [])) ⊎ (IsFalse (enters_lock call) × (new ≡ rest))

-- what a call of this process that is done makes of the lock, its waiting set aside: LOCK_PREEMPTION, UNLOCK_PREEMPTION and a stop do what
-- their sentences say, and any other call leaves the lock as it is
abbrev pub IsLockChange : ℕ → Request → Lock → Lock → Type 0
IsLockChange caller (request.Preemption LockOperation.Lock) lock next = (effect : Effect Lock) × IsLocking caller lock effect × (next ≡ effect.next)
IsLockChange caller (request.Preemption LockOperation.Unlock) lock next = (effect : Effect Lock) × IsUnlocking lock effect × (next ≡ effect.next)
IsLockChange caller (request.Process process ProcessOperation.Stop) lock next = (woken : List Who) × IsStoppedOwner (natural_of process) lock woken next
IsLockChange caller (request.Caller CallerOperation.StopSelf) lock next = (woken : List Who) × IsStoppedOwner caller lock woken next
IsLockChange caller _ lock next = next ≡ lock

-- the lock after a call, with its waiting set
pub record IsLockAfterCall (place : ℕ) (call : CallRecord) (old new : Lock) : Type 0 where
  pub changed : Lock
  pub change : (IsTrue (is_done call.claim.out) × IsLockChange call.who.proc call.request old changed) ⊎ (IsFalse (is_done call.claim.out) × (changed ≡ old))
  pub rest : new ≡ record changed { waiters = new.waiters }
  pub set : IsLockSetAfterCall place call old.waiters new.waiters

-- dispatches

-- a dispatch: the core is given to this process, or is idle; nothing else changes
pub record IsDispatchOf (core : ℕ) (who : Option Who) (state next : State) : Type 0 where
  pub occupant : occupant_of next.cores core ≡ who
  pub occupants : (other : ℕ) → ¬ (other ≡ core) → occupant_of next.cores other ≡ occupant_of state.cores other
  pub times : (other : ℕ) → time_of next.cores other ≡ time_of state.cores other
  pub count : length next.cores ≡ length state.cores
  pub partitions : (number : ℕ) → next.partitions number ≡ state.partitions number
  pub channels : ChannelsStay state next

-- ticks

-- the time of one core rises by one; the times of the others and all occupants are as before
pub record OneMoreTick (core : ℕ) (cores after : List CoreState) : Type 0 where
  pub time : time_of after core ≡ time_of cores core + 1
  pub others : (other : ℕ) → ¬ (other ≡ core) → time_of after other ≡ time_of cores other
  pub occupants : (other : ℕ) → occupant_of after other ≡ occupant_of cores other
  pub count : length after ≡ length cores

-- a process of a configured partition falls due on this core at this time
pub record FallsDue (configuration : Configuration) (state : State) (core now : ℕ) (who : Who) : Type 0 where
  pub configured : IsTrue (has_partition configuration who.part)
  pub process : Process
  pub is_member : process_in state who ≡ Some process
  pub due : IsDue core now process

-- a tick of a core: the processes of the core that fall due at its new time are released and leave their waiting sets; all other processes,
-- all modes, objects, ports and contents of channels are as before
pub record IsTickOf (configuration : Configuration) (core place : ℕ) (state next : State) : Type 0 where
  pub cores : OneMoreTick core state.cores next.cores
  pub over : (who : Who) → FallsDue configuration state core (time_of state.cores core + 1) who → Turns (IsReleased place) state next who
  pub others : (who : Who) → IsTrue (has_partition configuration who.part) → ¬ FallsDue configuration state core (time_of state.cores core + 1) who → Stays state next who
  pub objects : (number : ℕ) → ObjectsStay state next number
  pub sets : (number : ℕ) (wanted : WaitingSet)
      → KeepsOnly (FallsDue configuration state core (time_of state.cores core + 1)) (entries_at (state.partitions number) wanted) (entries_at (next.partitions number) wanted)
  pub locks : (number : ℕ) → KeepsOnly (FallsDue configuration state core (time_of state.cores core + 1)) (state.partitions number).lock.waiters (next.partitions number).lock.waiters
  pub contents : (number : ℕ) → (next.channels number).content ≡ (state.channels number).content
  pub senders : (number : ℕ) → KeepsOnly (FallsDue configuration state core (time_of state.cores core + 1)) (state.channels number).senders (next.channels number).senders
  pub receivers : (number : ℕ) → KeepsOnly (FallsDue configuration state core (time_of state.cores core + 1)) (state.channels number).receivers (next.channels number).receivers

-- returns and refused calls

-- this process changes in this way, and nothing else changes
pub record OnlyChanges (Change : Process → Process → Type 0) (who : Who) (state next : State) : Type 0 where
  pub changed : Turns Change state next who
  pub others : (other : Who) → ¬ (other ≡ who) → Stays state next other
  pub rest : (number : ℕ) → RestStays state next number
  pub channels : ChannelsStay state next
  pub cores : next.cores ≡ state.cores

-- a return: nothing is due to the returner any longer
abbrev pub HasReturned : Process → Process → Type 0
HasReturned old new = new ≡ record old { due = None }

-- errors

-- the process of an error after its report: a missed deadline is taken away, and no other error changes it by itself
abbrev pub IsReported : ErrorCode → Process → Process → Type 0
IsReported error.DeadlineMissed old new = new ≡ record old { deadline = None }
IsReported _ old new = new ≡ old

-- a process of a partition after the report of an error of a process: what the report makes of that process, and then what an error of it
-- makes of each
pub record IsTold (place : ℕ) (partition : Partition) (report : ErrorReport) (number : ℕ) (old new : Process) : Type 0 where
  pub told : Process
  pub first : ((number ≡ report.who.proc) × IsReported report.error old told) ⊎ ((¬ (number ≡ report.who.proc)) × (told ≡ old))
  pub second : IsAfterError place partition report.who.proc number told new

-- the process that an error can have: with DEADLINE_MISSED one that has missed its deadline on the core of the record, else the occupant of
-- the core
abbrev pub IsInError : ErrorCode → ℕ → State → Who → Process → Type 0
IsInError error.DeadlineMissed core state who process = HasMissed core (time_of state.cores core) process
IsInError _ core state who process = occupant_of state.cores core ≡ Some who

-- an error that restarts no partition is reported to the process's partition; if its handler takes the error, it is listed; nothing else changes
pub record IsErrorOf (configuration : Configuration) (core place : ℕ) (report : ErrorReport) (state next : State) : Type 0 where
  pub process : Process
  pub found : process_in state report.who ≡ Some process
  pub in_error : IsInError report.error core state report.who process
  pub goes_on : ¬ IsRestartingError configuration report.who.part (state.partitions report.who.part) report.who.proc
  pub peers : (who : Who) (old : Process) → who.part ≡ report.who.part → process_in state who ≡ Some old
      → Turns (IsTold place (state.partitions report.who.part) report who.proc) state next who
  pub no_others : (number : ℕ) → item_at (state.partitions report.who.part).table number ≡ None → item_at (next.partitions report.who.part).table number ≡ None
  pub errors : IsListAfterError (state.partitions report.who.part) (record { error = report.error; process = report.who.proc; message = [] })
      (next.partitions report.who.part).errors
  pub rest : OnlyErrorsChange (state.partitions report.who.part) (next.partitions report.who.part)
  pub elsewhere : (number : ℕ) → ¬ (number ≡ report.who.part) → next.partitions number ≡ state.partitions number
  pub channels : ChannelsStay state next
  pub cores : next.cores ≡ state.cores

-- a refused call: the code is due to the caller, with no value and no message, and the time of its core is noted
abbrev pub HasRefusal : Service → Code → ℕ → Process → Process → Type 0
HasRefusal of given now old new = new ≡ record old { due = Some (record { service = of; code = given; val = None; val2 = None; val3 = None; bytes = [] }); called_at = now }

-- a call with an error condition: the code of one of them is due to the caller, and nothing else changes
pub record IsRefusedCallOf (caller : Who) (of : Service) (conditions : List Condition) (now : ℕ) (state next : State) : Type 0 where
  pub code : Code
  pub condition : IsCodeOf conditions code
  pub answered : OnlyChanges (HasRefusal of code now) caller state next

-- calls

-- what a call sets in a process of its partition, if it was carried out
abbrev pub IsSetIfDone : Configuration → State → ℕ → CallRecord → ℕ → Process → Process → Type 0
IsSetIfDone configuration state place call number old set =
    (IsTrue (is_done call.claim.out)
    × IsSetBy place (period_of configuration call.who.part) state.cores (state.partitions call.who.part) call.who.proc call.request number old set)
    ⊎ (IsFalse (is_done call.claim.out) × (set ≡ old))

-- a process of the caller's partition: what the call sets, and then this change
pub record SetAnd (configuration : Configuration) (state : State) (place : ℕ) (call : CallRecord) (number : ℕ) (Next : Process → Process → Type 0) (old new : Process) : Type 0 where
  pub set : Process
  pub first : IsSetIfDone configuration state place call number old set
  pub second : Next set new

-- a process that did not exist: a CREATE_PROCESS that is done adds one under the number that it claims, and no other call adds one
pub data IsAdded (configuration : Configuration) (call : CallRecord) (number : ℕ) (found : Option Process) : Type 0 where
  created : (name : List ℕ) (priority period time_capacity : ℤ) (new : Process) → call.request ≡ request.CreateProcess name priority period time_capacity
      → IsTrue (is_done call.claim.out) → call.claim.val ≡ Some (pos number) → found ≡ Some new
      → IsCreated (first_core configuration call.who.part) name (natural_of priority) (period_given period) (capacity_given time_capacity) new
      → IsAdded configuration call number found
  not_created : ((name : List ℕ) (priority period time_capacity : ℤ) → call.request ≡ request.CreateProcess name priority period time_capacity → IsTrue (is_done call.claim.out) → ¬ (call.claim.val ≡ Some (pos number)))
      → found ≡ None → IsAdded configuration call number found

-- a call through a channel: the channel gives the outcome, the values, the message and the processes whose waits end, by the rule of its
-- use
pub record GoesThrough (configuration : Configuration) (now number : ℕ) (call : CallRecord) (channel next : Channel) : Type 0 where
  pub how : Use
  pub uses : use_of call.request ≡ Some how
  pub effect : Effect Content
  pub rule : IsUse configuration now number call.who.part channel how effect
  pub content : next.content ≡ effect.next
  pub out : call.claim.out ≡ effect.answer.out
  pub values : HasValues effect.answer.val effect.answer.val2 effect.answer.val3 call.claim
  pub bytes : call.claim.bytes ≡ effect.answer.bytes
  pub woken : NamesExactly effect.answer.woken call.claim.woken

-- nothing more
abbrev pub IsSame : Process → Process → Type 0
IsSame set new = new ≡ set

-- a call that restarts no partition. In the caller's partition, the caller is as its call leaves it; a process that the call stops is
-- stopped; another that it names is woken; any other has what the call sets in it, if anything. In every other partition, a process that
-- the call names is woken, and any other stays. Only CREATE_PROCESS adds a process. The lock, objects and ports of the caller's partition are
-- as their rules leave them, and those of the others stay. Processes whose waits end leave their waiting sets, and a caller that waits enters
-- its set. The error handler and the listed errors are as the request leaves them. The channel through which the call goes gives its outcome;
-- the contents of the others stay, and so do the cores
pub record IsCallOf (configuration : Configuration) (place now : ℕ) (call : CallRecord) (state next : State) : Type 0 where
  pub caller : Turns (SetAnd configuration state place call call.who.proc (IsCaller place now (state.partitions call.who.part) call)) state next call.who
  pub stopped : (who : Who) (old : Process) → who.part ≡ call.who.part → ¬ (who ≡ call.who) → process_in state who ≡ Some old → IsTrue (stops call who)
      → Turns (SetAnd configuration state place call who.proc IsStopped) state next who
  pub woken : (who : Who) (old : Process) → who.part ≡ call.who.part → ¬ (who ≡ call.who) → process_in state who ≡ Some old → IsFalse (stops call who)
      → IsTrue (is_named who call.claim.woken) → Turns (SetAnd configuration state place call who.proc (IsWoken place (message_of call.request))) state next who
  pub peers : (who : Who) (old : Process) → who.part ≡ call.who.part → ¬ (who ≡ call.who) → process_in state who ≡ Some old → IsFalse (stops call who)
      → IsFalse (is_named who call.claim.woken) → Turns (SetAnd configuration state place call who.proc IsSame) state next who
  pub woken_elsewhere : (who : Who) (old : Process) → ¬ (who.part ≡ call.who.part) → process_in state who ≡ Some old
      → IsTrue (is_named who call.claim.woken) → Turns (IsWoken place (message_of call.request)) state next who
  pub added : (number : ℕ) → item_at (state.partitions call.who.part).table number ≡ None → IsAdded configuration call number (item_at (next.partitions call.who.part).table number)
  pub elsewhere : (who : Who) → ¬ (who.part ≡ call.who.part) → IsFalse (is_named who call.claim.woken) → Stays state next who
  pub mode : (next.partitions call.who.part).mode
      ≡ (if is_done call.claim.out then mode_by call.request (state.partitions call.who.part).mode else (state.partitions call.who.part).mode)
  pub handler : (IsTrue (is_done call.claim.out)
      → IsHandlerAfter configuration call.who.part call.request (state.partitions call.who.part).handler (next.partitions call.who.part).handler)
      × (IsFalse (is_done call.claim.out) → (next.partitions call.who.part).handler ≡ (state.partitions call.who.part).handler)
  pub errors : (IsTrue (is_done call.claim.out)
      → IsListAfter call.who.proc call.request (state.partitions call.who.part) (next.partitions call.who.part).errors)
      × (IsFalse (is_done call.claim.out) → (next.partitions call.who.part).errors ≡ (state.partitions call.who.part).errors)
  pub lock : IsLockAfterCall place call (state.partitions call.who.part).lock (next.partitions call.who.part).lock
  pub objects : (IsTrue (is_done call.claim.out)
      → ObjectsAre (next.partitions call.who.part) (objects_by configuration call.who call.claim.val call.request (state.partitions call.who.part)))
      × (IsFalse (is_done call.claim.out) → ObjectsAre (next.partitions call.who.part) (state.partitions call.who.part))
  pub other_partitions : (number : ℕ) → ¬ (number ≡ call.who.part) → RestStays state next number
  pub senders : (number : ℕ) → IsSetAfterCall place call (channel_set number Senders) (state.channels number).senders (next.channels number).senders
  pub receivers : (number : ℕ) → IsSetAfterCall place call (channel_set number Receivers) (state.channels number).receivers (next.channels number).receivers
  pub through : (number : ℕ) → call.claim.chan ≡ Some number → GoesThrough configuration now number call (state.channels number) (next.channels number)
  pub contents : (number : ℕ) → ¬ (call.claim.chan ≡ Some number) → (next.channels number).content ≡ (state.channels number).content
  pub cores : next.cores ≡ state.cores

-- arrivals and departures

-- a record of a message that passes an end outside, by the message that it hands over and by what it makes of its channel: the processes
-- that it names wake and leave the channel's waiting sets, what the channel holds changes, and nothing else changes
pub record IsCrossingOf (place : ℕ) (crossing : Crossing) (handed_over : List ℕ) (Changes : Channel → List Who → Content → Type 0) (state next : State) : Type 0 where
  pub woken : (who : Who) (old : Process) → process_in state who ≡ Some old → IsTrue (is_named who crossing.woken) → Turns (IsWoken place handed_over) state next who
  pub others : (who : Who) → IsFalse (is_named who crossing.woken) → Stays state next who
  pub partitions : (number : ℕ) → RestStays state next number
  pub wakes : List Who
  pub named : NamesExactly wakes crossing.woken
  pub channel : Changes (state.channels crossing.chan) wakes (next.channels crossing.chan).content
  pub contents : (number : ℕ) → ¬ (number ≡ crossing.chan) → (next.channels number).content ≡ (state.channels number).content
  pub senders : (number : ℕ) → KeepsOnly (λ who. IsTrue (is_named who crossing.woken)) (state.channels number).senders (next.channels number).senders
  pub receivers : (number : ℕ) → KeepsOnly (λ who. IsTrue (is_named who crossing.woken)) (state.channels number).receivers (next.channels number).receivers
  pub cores : next.cores ≡ state.cores

-- restarts

-- a call restarts its caller's partition: it is a SET_PARTITION_MODE to IDLE, COLD_START or WARM_START that does not return, or a
-- RAISE_APPLICATION_ERROR that does not return because the configuration restarts the partition
pub data Restarts (configuration : Configuration) (call : CallRecord) : Restart → Type 0 where
  to_idle : call.request ≡ request.SetPartitionMode (pos 0) → call.claim.out ≡ out.Never → Restarts configuration call (record { start = PartitionRestart; mode = mode.Idle })
  to_cold_start : call.request ≡ request.SetPartitionMode (pos 1) → call.claim.out ≡ out.Never
      → Restarts configuration call (record { start = PartitionRestart; mode = mode.ColdStart })
  to_warm_start : call.request ≡ request.SetPartitionMode (pos 2) → call.claim.out ≡ out.Never
      → Restarts configuration call (record { start = PartitionRestart; mode = mode.WarmStart })
  by_error : (given length : ℤ) (message : List ℕ) (entered : Mode) → call.request ≡ request.Health (HealthOperation.RaiseError given length message)
      → call.claim.out ≡ out.Never → ErrorRestartsIn configuration call.who.part entered → Restarts configuration call (record { start = ErrorRestart; mode = entered })

-- the initialising process of a partition that starts at this place: ready from then on, on this core, without a deadline and with nothing
-- due to it
pub record IsInitialising (core place : ℕ) (process : Process) : Type 0 where
  pub ready : IsReady core process
  pub position : process.ready_position ≡ place
  pub priority : process.current_priority ≡ 0
  pub due : process.due ≡ None
  pub period : process.period ≡ None
  pub deadline : process.deadline ≡ None

-- the processes of a partition that starts at this place: none in IDLE, else the initialising process alone
abbrev pub IsStart : Mode → ℕ → ℕ → Table → Type 0
IsStart mode.Idle core place table = (number : ℕ) → item_at table number ≡ None
IsStart _ core place table =
    ((process : Process) × (item_at table 0 ≡ Some process) × IsInitialising core place process)
    × ((number : ℕ) → ¬ (number ≡ 0) → item_at table number ≡ None)

-- a restart of a partition in a mode: it starts anew with a start condition, with a free lock, without objects, ports, error handler and
-- errors; its processes leave the waiting sets of all channels; the contents of channels, the other partitions and the cores are as before
pub record IsRestartOf (configuration : Configuration) (place : ℕ) (restart : Restart) (part : ℕ) (state next : State) : Type 0 where
  pub mode : (next.partitions part).mode ≡ restart.mode
  pub start : (next.partitions part).start ≡ restart.start
  pub handler : (next.partitions part).handler ≡ None
  pub errors : (next.partitions part).errors ≡ []
  pub lock : (next.partitions part).lock ≡ free_lock
  pub processes : IsStart restart.mode (first_core configuration part) place (next.partitions part).table
  pub buffers : (next.partitions part).buffers ≡ []
  pub blackboards : (next.partitions part).blackboards ≡ []
  pub semaphores : (next.partitions part).semaphores ≡ []
  pub events : (next.partitions part).events ≡ []
  pub mutexes : (next.partitions part).mutexes ≡ []
  pub sampling_ports : (next.partitions part).sampling_ports ≡ []
  pub queuing_ports : (next.partitions part).queuing_ports ≡ []
  pub elsewhere : (number : ℕ) → ¬ (number ≡ part) → next.partitions number ≡ state.partitions number
  pub contents : (number : ℕ) → (next.channels number).content ≡ (state.channels number).content
  pub senders : (number : ℕ) → KeepsOnly (λ who. who.part ≡ part) (state.channels number).senders (next.channels number).senders
  pub receivers : (number : ℕ) → KeepsOnly (λ who. who.part ≡ part) (state.channels number).receivers (next.channels number).receivers
  pub cores : next.cores ≡ state.cores
