-- Waiting sets: which process is first, which one enters and which ones leave. One rule serves all sets.
use Rattle.std.specs.Prelude.{◌≡◌, ◌⊎◌, ◌<◌, ℕ, zero, suc, List, [], ◌∷◌, ◌++◌, Option, Some, None, Bool, true, false, ℤ, pos, negsuc, nat_eq, nat_lt, ◌&&◌, ◌||◌, if◌then◌else◌, is_some, option_map, Contains}
use Rattle.apex_types.specs.declared.code.Code.TheVariants as code
use Rattle.apex_types.specs.declared.discipline.Discipline.{Discipline}
use Rattle.apex_types.specs.declared.discipline.Discipline.TheVariants as discipline
use Rattle.apex_types.specs.declared.object_kind.KindServices.{KindServices}
use Rattle.apex_types.specs.declared.object_kind.ObjectKind.{ObjectKind}
use Rattle.apex_types.specs.declared.object_kind.ObjectKind.TheVariants as kind
use Rattle.apex_types.specs.declared.record.Body.{Body}
use Rattle.apex_types.specs.declared.record.Body.TheVariants.{Arrive, Call, Depart, Ret, Disp, Tick, Error}
use Rattle.apex_types.specs.declared.record.Call.{Call as CallRecord}
use Rattle.apex_types.specs.declared.record.Out.{Out}
use Rattle.apex_types.specs.declared.record.Out.TheVariants as out
use Rattle.apex_types.specs.declared.record.Who.{Who}
use Rattle.apex_types.specs.declared.operation.{HealthOperation.HealthOperation, ProcessOperation.ProcessOperation, QueuingOperation.QueuingOperation, SamplingOperation.SamplingOperation}
use Rattle.apex_types.specs.declared.request.Request.{Request}
use Rattle.apex_types.specs.declared.request.Request.TheVariants as request
use Rattle.apex_types.specs.declared.service.Service.{Service}
use Rattle.apex_types.specs.declared.shape.AllowedWait.{AllowedWait}
use Rattle.apex_types.specs.declared.shape.End.{End}
use Rattle.apex_types.specs.declared.shape.End.TheVariants.{Senders, Receivers}
use Rattle.apex_types.specs.Requested.{services_of}
use Rattle.apex_types.specs.Shapes.{kind_used, message_on, shape_of_queuing, shape_on}
use Rattle.apex_machine.specs.declared.state.Entry.{Entry}
use Rattle.apex_machine.specs.declared.state.Process.{Process}
use Rattle.apex_machine.specs.declared.state.Wait.{Wait}
use Rattle.apex_machine.specs.declared.state.Wait.TheVariants as wait
use Rattle.apex_machine.specs.declared.state.WaitingSet.{WaitingSet}
use Rattle.apex_machine.specs.Arguments.{natural_of, restart_given}
pub use Rattle.apex_machine.specs.State.{is_same_set}
use Rattle.apex_machine.specs.State.{is_named, is_same, set_at}

-- the first of a set

-- the test whether one entry precedes another
abbrev pub precedes : Discipline → Entry → Entry → Bool
precedes discipline.Fifo one other = nat_lt one.place other.place
precedes discipline.Priority one other =
    nat_lt other.priority one.priority || (nat_eq one.priority other.priority && nat_lt one.place other.place)

-- of this entry and the one found among the others, if any, the one that precedes
abbrev pub sooner_entry : Discipline → Entry → Option Entry → Option Entry
sooner_entry discipline entry None = Some entry
sooner_entry discipline entry (Some other) = if precedes discipline other entry then Some other else Some entry

-- the entry of a set that no other precedes, found by a walk from the end of the set
abbrev pub first_waiter : Discipline → List Entry → Option Entry
first_waiter discipline [] = None
first_waiter discipline (entry ∷ entries) = sooner_entry discipline entry (first_waiter discipline entries)

-- the entries of the processes that do not leave
abbrev pub without : (Who → Bool) → List Entry → List Entry
without leaves [] = []
without leaves (entry ∷ entries) = if leaves entry.who then without leaves entries else entry ∷ without leaves entries

-- the entries after the first has left
abbrev pub after_first : Option Entry → List Entry → List Entry
after_first None entries = []
after_first (Some first) entries = without (is_same first.who) entries

-- the first, if there is one, and those after it
abbrev pub followed_by : Option Entry → List Entry → List Entry
followed_by None others = []
followed_by (Some first) others = first ∷ others

-- the first entries of a set, as many as this number or all: each is the first of those that are left
abbrev pub first_waiters : Discipline → ℕ → List Entry → List Entry
first_waiters discipline zero entries = []
first_waiters discipline (suc count) entries =
    followed_by (first_waiter discipline entries) (first_waiters discipline count (after_first (first_waiter discipline entries) entries))

-- one entry precedes another in a waiting set: by place if the set is first in, first out; by priority, and among equals by place, if it
-- goes by priority   (QUEUING_DISCIPLINE, section 3)
abbrev pub Precedes : Discipline → Entry → Entry → Type 0
Precedes discipline.Fifo one other = one.place < other.place
Precedes discipline.Priority one other =
    (other.priority < one.priority) ⊎ ((one.priority ≡ other.priority) × (one.place < other.place))

-- the first of a waiting set: it is in the set, and no other precedes it
pub record IsFirst (discipline : Discipline) (entries : List Entry) (entry : Entry) : Type 0 where
  pub is_member : Contains entries entry
  pub first : (other : Entry) → Contains entries other → ¬ Precedes discipline other entry

-- where a call waits

-- the waiting set at an end of the object or the channel of this kind and number, if a caller may wait there
abbrev pub set_used : ObjectKind → ℕ → Option AllowedWait → Option WaitingSet
set_used kind number allowed = option_map (λ wait. set_at kind number wait.end) allowed

-- the waiting set in which the caller of a request waits, if it waits in one; a port's set is that of its channel
abbrev pub set_of : Request → Option ℕ → Option WaitingSet
set_of (request.Object number operation) chan = set_used (kind_used operation) (natural_of number) (shape_on operation).wait
set_of (request.QueuingPort port operation) (Some channel) = set_used kind.QueuingPort channel (shape_of_queuing operation).wait
set_of _ chan = None

-- of the services of a kind, the one whose callers wait at this end
abbrev pub service_waiting : KindServices → End → Option Service
service_waiting services Senders = services.sending
service_waiting services Receivers = services.receiving

-- the service for which the processes of a set wait
abbrev pub service_at : WaitingSet → Option Service
service_at wanted = service_waiting (services_of wanted.kind) wanted.end

-- whether there is a set, and it is this one
abbrev pub is_the_set : WaitingSet → Option WaitingSet → Bool
is_the_set wanted None = false
is_the_set wanted (Some found) = is_same_set found wanted

-- whether a wait is in this set
abbrev pub is_in : WaitingSet → Wait → Bool
is_in wanted (wait.At found due) = is_same_set found wanted
is_in wanted _ = false

-- whether a process exists and waits in this set; a process that waits is alive
abbrev pub waits_at : WaitingSet → Option Process → Bool
waits_at wanted None = false
waits_at wanted (Some process) = process.alive && is_in wanted process.wait

-- what enters

-- whether a call waits
abbrev pub is_waiting : Out → Bool
is_waiting out.Waits = true
is_waiting out.Never = false
is_waiting (out.Answer code) = false

-- whether a call answers NO_ERROR
abbrev pub is_no_error : Out → Bool
is_no_error (out.Answer code.NoError) = true
is_no_error _ = false

-- the message that a caller gives
abbrev pub message_of : Request → List ℕ
message_of (request.Object number operation) = message_on operation
message_of (request.SamplingPort port (SamplingOperation.Write length message)) = message
message_of (request.QueuingPort port (QueuingOperation.Send length time_out message)) = message
message_of _ = []

-- the entry of a caller: with its priority at the call, the place of the call and the message that it sends
abbrev pub entry_of : ℕ → CallRecord → Entry
entry_of place call = record { who = call.who; priority = call.claim.prio; place = place; message = message_of call.request }

-- whether a call enters a waiting set
abbrev pub enters : CallRecord → WaitingSet → Bool
enters call wanted = is_waiting call.claim.out && is_the_set wanted (set_of call.request call.claim.chan)

-- what leaves

-- the process that a service stops, other than its caller
abbrev pub stop_of : Request → Option ℤ
stop_of (request.Process process ProcessOperation.Stop) = Some process
stop_of _ = None

-- whether this is the process that is stopped, if one is
abbrev pub is_target : Option ℤ → ℕ → Bool
is_target None number = false
is_target (Some (pos target)) number = nat_eq number target
is_target (Some (negsuc n)) number = false

-- whether a call stops a process: a STOP that is done stops its target, which is of the caller's partition
abbrev pub stops : CallRecord → Who → Bool
stops call who = is_no_error call.claim.out && (nat_eq who.part call.who.part && is_target (stop_of call.request) who.proc)

-- whether a call restarts its caller's partition: SET_PARTITION_MODE to IDLE, COLD_START or WARM_START, or RAISE_APPLICATION_ERROR, that
-- does not return   (partition modes, section 2)
abbrev pub restarts_by : Request → Out → Bool
restarts_by (request.SetPartitionMode next) out.Never = is_some (restart_given next)
restarts_by (request.Health (HealthOperation.RaiseError error length message)) out.Never = true
restarts_by _ claimed = false

-- whether a call restarts its caller's partition
abbrev pub is_restart : CallRecord → Bool
is_restart call = restarts_by call.request call.claim.out

-- whether a call restarts this partition
abbrev pub restarts : CallRecord → ℕ → Bool
restarts call number = is_restart call && nat_eq number call.who.part

-- whether a call ends the wait of a process: it restarts the process's partition, names the process, or stops it
abbrev pub ends_wait : CallRecord → Who → Bool
ends_wait call who = restarts call who.part || (is_named who call.claim.woken || stops call who)

-- a waiting set after a record: a process whose wait ends leaves it, and a caller that waits in it enters it; if an error restarts a
-- partition, the partition's processes leave it
abbrev pub set_after : ℕ → Body → WaitingSet → List Entry → List Entry
set_after place (Disp who) wanted entries = entries
set_after place (Ret ret) wanted entries = entries
set_after place (Tick woken) wanted entries = without (λ who. is_named who woken) entries
set_after place (Arrive crossing) wanted entries = without (λ who. is_named who crossing.woken) entries
set_after place (Depart crossing) wanted entries = without (λ who. is_named who crossing.woken) entries
set_after place (Error report) wanted entries = if report.restarts then without (λ who. nat_eq who.part report.who.part) entries else entries
set_after place (Call call) wanted entries =
    if enters call wanted
    then without (ends_wait call) entries ++ entry_of place call ∷ []
    else without (ends_wait call) entries
