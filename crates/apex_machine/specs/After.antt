-- The state after a record: what the record's claims make of each process, partition, channel and core.
use Rattle.std.specs.Prelude.{ℕ, suc, ◌+◌, List, [], ◌∷◌, ◌++◌, Option, Some, None, Bool, true, false, ℤ, pos, negsuc, nat_eq, option_map, if◌then◌else◌}
use Rattle.std.specs.Option.{option_eq}
use Rattle.std.specs.Ordering.{int_eq}
use Rattle.apex_types.specs.declared.code.Code.TheVariants as code
use Rattle.apex_types.specs.declared.object_kind.ObjectKind.{ObjectKind}
use Rattle.apex_types.specs.declared.object_kind.ObjectKind.TheVariants as kind
use Rattle.apex_types.specs.declared.record.Body.{Body}
use Rattle.apex_types.specs.declared.record.Body.TheVariants.{Arrive, Call, Depart, Ret, Disp, Tick, Error}
use Rattle.apex_types.specs.declared.record.Call.{Call as CallRecord}
use Rattle.apex_types.specs.declared.record.ErrorReport.{ErrorReport}
use Rattle.apex_types.specs.declared.record.Ordered.{Ordered}
use Rattle.apex_types.specs.declared.record.Out.{Out}
use Rattle.apex_types.specs.declared.record.Out.TheVariants as out
use Rattle.apex_types.specs.declared.record.Who.{Who}
use Rattle.apex_types.specs.declared.operation.{NewObject.NewObject, SamplingOperation.SamplingOperation}
use Rattle.apex_types.specs.declared.request.Request.{Request}
use Rattle.apex_types.specs.declared.shape.End.TheVariants.{Senders, Receivers}
use Rattle.apex_types.specs.Requested.{kind_of}
use Rattle.apex_types.specs.Shapes.{kind_used}
use Rattle.apex_types.specs.declared.request.Request.TheVariants as request
use Rattle.apex_machine.specs.declared.state.CoreState.{CoreState}
use Rattle.apex_machine.specs.declared.state.Entry.{Entry}
use Rattle.apex_machine.specs.declared.state.Mode.{Mode}
use Rattle.apex_machine.specs.declared.state.Mode.TheVariants as mode
use Rattle.apex_machine.specs.declared.state.Process.{Process}
use Rattle.apex_machine.specs.declared.state.Restart.{Restart}
use Rattle.apex_machine.specs.declared.state.StartCondition.TheVariants.{ErrorRestart, PartitionRestart}
use Rattle.apex_machine.specs.declared.state.WaitingSet.{WaitingSet}
use Rattle.apex_machine.specs.Arguments.{discipline_given, natural_of, restart_given}
use Rattle.apex_machine.specs.Channels.{QueuingPort, SamplingPort, queuing_port, sampling_port}
use Rattle.apex_machine.specs.Configuration.{Configuration, first_core, period_of}
use Rattle.apex_machine.specs.Locks.{lock_by, lock_left}
use Rattle.apex_machine.specs.Objects.{object_effect}
use Rattle.apex_machine.specs.Ports.{arrived, channel_effect, departed, use_of}
pub use Rattle.apex_machine.specs.Processes.{caller_after, caller_with, outcome_of, released}
use Rattle.apex_machine.specs.Errors.{error_mode, errors_after, errors_by, handler_by, handles_more, reported}
use Rattle.apex_machine.specs.Processes.{new_process, set_by, stopped, woken_by}
use Rattle.apex_machine.specs.State.{Blackboard, Buffer, Channel, Content, Event, Lock, Mutex, ObjectOf, Partition, Port, Semaphore, State, Table, at_core, change_at, channel_set, each_item, is_named, objects_of, set_at, started_partition, time_of, with_ends, with_objects}
use Rattle.apex_machine.specs.Waiting.{is_restart, message_of, set_after, stops}

-- whether a call was carried out: it waits, it does not return, or it answered NO_ERROR
abbrev pub is_done : Out → Bool
is_done out.Waits = true
is_done out.Never = true
is_done (out.Answer code.NoError) = true
is_done (out.Answer _) = false

-- processes

-- the mode after a call that is no restart: only NORMAL can be entered
abbrev pub mode_by : Request → Mode → Mode
mode_by (request.SetPartitionMode next) current = mode.Normal
mode_by _ current = current

-- a process of the caller's partition after what the call sets there
abbrev pub adjusted : ℕ → ℕ → List CoreState → Partition → CallRecord → ℕ → Process → Process
adjusted place period cores partition call number process =
    if is_done call.claim.out then set_by place period cores partition call.who.proc call.request number process else process

-- a process after a record that hands over this message and names the processes whose waits it ends
abbrev pub woken_if_named : ℕ → List ℕ → List Who → Who → Process → Process
woken_if_named place message woken who process = if is_named who woken then woken_by place message process else process

-- a process of the caller's partition after the call: the caller, a process that the call stops, or any other, whose wait the call may end
abbrev pub called : ℕ → ℕ → ℕ → List CoreState → Partition → CallRecord → ℕ → Process → Process
called place now period cores partition call number process =
    let changed = adjusted place period cores partition call number process in
    let who : Who = record { part = call.who.part; proc = number } in
    if nat_eq number call.who.proc then caller_after place now (handles_more partition call.who.proc call.request) call changed
    else if stops call who then stopped changed
    else woken_if_named place (message_of call.request) call.claim.woken who changed

-- what is created, under the number that a call claims
abbrev pub numbered : {Object : Type 0} → Option ℤ → Object → List (ℕ × Object)
numbered None object = []
numbered (Some (pos number)) object = (number, object) ∷ []
numbered (Some (negsuc n)) object = []

-- what a call adds to the table of its caller's partition: a created process, on this core
abbrev pub created_by : ℕ → CallRecord → Request → Table
created_by core call (request.CreateProcess name priority period time_capacity) =
    if is_done call.claim.out then numbered call.claim.val (new_process core name priority period time_capacity) else []
created_by core call _ = []

-- objects

-- a created sampling port is as it is configured; no process has read at it
abbrev pub new_sampling_port : List ℕ → SamplingPort → Port
new_sampling_port name port = record { name = name; size = port.size; direction = port.direction; channel = port.channel; valid = false }

-- a created queuing port is as it is configured
abbrev pub new_queuing_port : List ℕ → QueuingPort → Port
new_queuing_port name port = record { name = name; size = port.size; direction = port.direction; channel = port.channel; valid = false }

-- a created buffer holds nothing   (CREATE_BUFFER, section 3)
abbrev pub new_buffer : List ℕ → ℤ → ℤ → ℤ → Buffer
new_buffer name size capacity discipline = record {
  name = name;
  size = natural_of size;
  capacity = natural_of capacity;
  discipline = discipline_given discipline;
  messages = [];
  senders = [];
  receivers = [];
}

-- a created blackboard is empty   (CREATE_BLACKBOARD, section 3)
abbrev pub new_blackboard : List ℕ → ℤ → Blackboard
new_blackboard name size = record { name = name; size = natural_of size; message = None; readers = [] }

-- a created semaphore has the value that is given   (CREATE_SEMAPHORE, section 3)
abbrev pub new_semaphore : List ℕ → ℤ → ℤ → ℤ → Semaphore
new_semaphore name value maximum discipline =
    record { name = name; maximum = natural_of maximum; discipline = discipline_given discipline; value = natural_of value; waiters = [] }

-- a created event is down   (CREATE_EVENT, section 3)
abbrev pub new_event : List ℕ → Event
new_event name = record { name = name; up = false; waiters = [] }

-- a created mutex is free   (CREATE_MUTEX, section 3)
abbrev pub new_mutex : List ℕ → ℤ → ℤ → Mutex
new_mutex name priority discipline =
    record { name = name; priority = natural_of priority; discipline = discipline_given discipline; owner = None; count = 0; waiters = [] }

-- whether a read claims a valid sample
abbrev pub is_valid : Option ℤ → Bool
is_valid claimed = option_eq int_eq claimed (Some (pos 1))

-- what a creation creates; a port must be configured
abbrev pub new_object : Configuration → ℕ → List ℕ → (object : NewObject) → Option (ObjectOf (kind_of object))
new_object configuration part name (NewObject.Buffer size capacity discipline) = Some (new_buffer name size capacity discipline)
new_object configuration part name (NewObject.Blackboard size) = Some (new_blackboard name size)
new_object configuration part name (NewObject.Semaphore value maximum discipline) = Some (new_semaphore name value maximum discipline)
new_object configuration part name NewObject.Event = Some (new_event name)
new_object configuration part name (NewObject.Mutex priority discipline) = Some (new_mutex name priority discipline)
new_object configuration part name (NewObject.SamplingPort size direction refresh) = option_map (new_sampling_port name) (sampling_port configuration part name)
new_object configuration part name (NewObject.QueuingPort size capacity direction discipline) = option_map (new_queuing_port name) (queuing_port configuration part name)

-- what is created, if anything is, under the number that a call claims
abbrev pub numbered_if : {Object : Type 0} → Option ℤ → Option Object → List (ℕ × Object)
numbered_if claimed None = []
numbered_if claimed (Some object) = numbered claimed object

-- the objects and ports of the caller's partition after a call that is done, waiting sets aside: what is created has the number that is
-- claimed, the object that is used is as its rule leaves it, and a port records whether its last read gave a valid sample
abbrev pub objects_by : Configuration → Who → Option ℤ → Request → Partition → Partition
objects_by configuration who claimed (request.Create name object) partition =
    with_objects (kind_of object) (objects_of partition (kind_of object) ++ numbered_if claimed (new_object configuration who.part name object)) partition
objects_by configuration who claimed (request.Object number operation) partition =
    with_objects (kind_used operation)
    (change_at (natural_of number) (λ found. (object_effect who.proc operation found).next) (objects_of partition (kind_used operation))) partition
objects_by configuration who claimed (request.SamplingPort port SamplingOperation.Read) partition = record partition {
  sampling_ports = change_at (natural_of port) (λ found. record found { valid = is_valid claimed }) partition.sampling_ports;
}
objects_by configuration who claimed _ partition = partition

-- an object of a kind with each of its waiting sets changed
abbrev pub with_sets : (kind : ObjectKind) → (WaitingSet → List Entry → List Entry) → ℕ → ObjectOf kind → ObjectOf kind
with_sets kind change number found = with_ends kind (λ end. change (set_at kind number end)) found

-- a partition with each of its waiting sets changed
abbrev pub each_set : (WaitingSet → List Entry → List Entry) → Partition → Partition
each_set change partition = record partition {
  buffers = each_item (with_sets kind.Buffer change) partition.buffers;
  blackboards = each_item (with_sets kind.Blackboard change) partition.blackboards;
  semaphores = each_item (with_sets kind.Semaphore change) partition.semaphores;
  events = each_item (with_sets kind.Event change) partition.events;
  mutexes = each_item (with_sets kind.Mutex change) partition.mutexes;
}

-- a partition with the waiting sets that a record leaves, its lock's included
abbrev pub sets_left : ℕ → Body → Partition → Partition
sets_left place body partition = record (each_set (set_after place body) partition) { lock = lock_left place body partition.lock }

-- partitions

-- the objects and ports of the caller's partition after a call, with their waiting sets
abbrev pub objects_called : Configuration → ℕ → CallRecord → Partition → Partition
objects_called configuration place call partition =
    each_set (set_after place (Call call))
    (if is_done call.claim.out then objects_by configuration call.who call.claim.val call.request partition else partition)

-- the lock after a call, with its waiting set
abbrev pub lock_called : ℕ → CallRecord → Lock → Lock
lock_called place call lock =
    lock_left place (Call call) (if is_done call.claim.out then lock_by call.who.proc call.request lock else lock)

-- the caller's partition after a call at this place and core that does not restart it
abbrev pub partition_called : Configuration → List CoreState → ℕ → ℕ → CallRecord → Partition → Partition
partition_called configuration cores place core call partition = record (objects_called configuration place call partition) {
  mode = if is_done call.claim.out then mode_by call.request partition.mode else partition.mode;
  handler = if is_done call.claim.out then handler_by configuration call.who.part call.request partition.handler else partition.handler;
  errors = if is_done call.claim.out then errors_by call.who.proc call.request partition else partition.errors;
  lock = lock_called place call partition.lock;
  table = each_item (called place (time_of cores core) (period_of configuration call.who.part) cores partition call) partition.table
      ++ created_by (first_core configuration call.who.part) call call.request;
}

-- a restart after an error of a partition, if its errors restart it
abbrev pub restart_by_error : Configuration → ℕ → Option Restart
restart_by_error configuration number = option_map (λ mode. record { start = ErrorRestart; mode = mode }) (error_mode configuration number)

-- the restart of a call that restarts its caller's partition: SET_PARTITION_MODE gives the mode, for RAISE_APPLICATION_ERROR it is configured
abbrev pub restart_for : Configuration → ℕ → Request → Option Restart
restart_for configuration number (request.SetPartitionMode next) = option_map (λ mode. record { start = PartitionRestart; mode = mode }) (restart_given next)
restart_for configuration number _ = restart_by_error configuration number

-- the restart that a call makes, if it makes one
abbrev pub restart_of : Configuration → CallRecord → Option Restart
restart_of configuration call = if is_restart call then restart_for configuration call.who.part call.request else None

-- a partition restarted at this place
abbrev pub restarted : Restart → Configuration → ℕ → ℕ → Partition
restarted restart configuration number place = started_partition restart.start restart.mode configuration number place

-- the caller's partition after a call at this place and core, by the restart that it makes, if it makes one
abbrev pub own_partition : Option Restart → Configuration → List CoreState → ℕ → ℕ → CallRecord → Partition → Partition
own_partition None configuration cores place core call partition = partition_called configuration cores place core call partition
own_partition (Some restart) configuration cores place core call partition = restarted restart configuration call.who.part place

-- a process after a tick that may wake it
abbrev pub ticked : ℕ → ℕ → List Who → ℕ → Process → Process
ticked place partition woken number process =
    if is_named (record { part = partition; proc = number }) woken then released place process else process

-- a process after a return, which clears the outcome due to the returner
abbrev pub returned : ℕ → ℕ → Process → Process
returned returner number process = if nat_eq number returner then record process { due = None } else process

-- a partition after the report of an error of one of its processes that does not restart it
abbrev pub partition_reported : ℕ → ErrorReport → Partition → Partition
partition_reported place report partition = record partition {
  errors = errors_after partition report;
  table = each_item (reported place partition report) partition.table;
}

-- the restart that the report of an error makes, if it makes one
abbrev pub restart_reported : Configuration → ErrorReport → Option Restart
restart_reported configuration report = if report.restarts then restart_by_error configuration report.who.part else None

-- a partition after the report of an error of one of its processes, by the restart that it makes, if it makes one
abbrev pub partition_errored : Option Restart → Configuration → ℕ → ErrorReport → Partition → Partition
partition_errored None configuration place report partition = partition_reported place report partition
partition_errored (Some restart) configuration place report partition = restarted restart configuration report.who.part place

-- a partition after a record of others, which hands over this message and can only end waits of the partition's processes
abbrev pub partition_woken : ℕ → ℕ → List ℕ → List Who → Partition → Partition
partition_woken place number message woken partition =
    record partition { table = each_item (λ other process. woken_if_named place message woken (record { part = number; proc = other }) process) partition.table }

-- a partition after a record: a call of another partition, an arrival and a departure can only end waits of its processes. An arrival hands
-- over its message
abbrev pub partition_by : Configuration → List CoreState → ℕ → ℕ → ℕ → Body → Partition → Partition
partition_by configuration cores place core number (Disp who) partition = partition
partition_by configuration cores place core number (Tick woken) partition =
    record (sets_left place (Tick woken) partition) { table = each_item (ticked place number woken) partition.table }
partition_by configuration cores place core number (Ret ret) partition =
    if nat_eq ret.who.part number then record partition { table = each_item (returned ret.who.proc) partition.table } else partition
partition_by configuration cores place core number (Call call) partition =
    if nat_eq call.who.part number
    then own_partition (restart_of configuration call) configuration cores place core call partition
    else partition_woken place number (message_of call.request) call.claim.woken partition
partition_by configuration cores place core number (Arrive crossing) partition = partition_woken place number crossing.message crossing.woken partition
partition_by configuration cores place core number (Depart crossing) partition = partition_woken place number [] crossing.woken partition
partition_by configuration cores place core number (Error report) partition =
    if nat_eq report.who.part number then partition_errored (restart_reported configuration report) configuration place report partition else partition

-- a partition after an ordered record
abbrev pub partition_after : Configuration → List CoreState → ℕ → Ordered → Partition → Partition
partition_after configuration cores number ordered partition =
    partition_by configuration cores ordered.pos ordered.core number ordered.rec.body partition

-- channels

-- whether this is the channel, if there is one
abbrev pub is_channel : ℕ → Option ℕ → Bool
is_channel number None = false
is_channel number (Some channel) = nat_eq channel number

-- what a channel holds after a record at this time of its core; only a call through the channel, an arrival at it and a departure from it
-- change it
abbrev pub content_by : Configuration → ℕ → ℕ → Body → Channel → Content
content_by configuration now number (Call call) channel =
    if is_channel number call.claim.chan then (channel_effect configuration now number call.who.part (use_of call.request) channel).next else channel.content
content_by configuration now number (Arrive crossing) channel =
    if nat_eq crossing.chan number then (arrived configuration now number crossing.message channel).next else channel.content
content_by configuration now number (Depart crossing) channel =
    if nat_eq crossing.chan number then (departed configuration now number channel).next else channel.content
content_by configuration now number _ channel = channel.content

-- a channel after a record at this time of its core
abbrev pub channel_after : Configuration → ℕ → ℕ → Ordered → Channel → Channel
channel_after configuration now number ordered channel = record {
  content = content_by configuration now number ordered.rec.body channel;
  senders = set_after ordered.pos ordered.rec.body (channel_set number Senders) channel.senders;
  receivers = set_after ordered.pos ordered.rec.body (channel_set number Receivers) channel.receivers;
}

-- cores

-- the cores after a record: a dispatch gives the core to a process, a tick adds one to its time
abbrev pub cores_by : ℕ → Body → List CoreState → List CoreState
cores_by core (Disp who) cores = at_core (λ state. record state { occupant = who }) core cores
cores_by core (Tick woken) cores = at_core (λ state. record state { time = state.time + 1 }) core cores
cores_by core (Ret ret) cores = cores
cores_by core (Call call) cores = cores
cores_by core (Arrive crossing) cores = cores
cores_by core (Depart crossing) cores = cores
cores_by core (Error report) cores = cores

-- the cores after an ordered record
abbrev pub cores_after : Ordered → List CoreState → List CoreState
cores_after ordered cores = cores_by ordered.core ordered.rec.body cores

-- the state after a record
abbrev pub after : Configuration → State → Ordered → State
after configuration state ordered = record {
  count = suc state.count;
  cores = cores_after ordered state.cores;
  partitions = λ number. partition_after configuration state.cores number ordered (state.partitions number);
  channels = λ number. channel_after configuration (time_of state.cores ordered.core) number ordered (state.channels number);
}
