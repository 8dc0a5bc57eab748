-- The view of a record: the numbers that a user's relation can speak of. The piece that judges the record reads the view from its part.
use Rattle.std.specs.Prelude.{ℕ, ◌+◌, ◌-◌, List, [], ◌∷◌, length, Option, Some, None, Bool, true, false, ℤ, pos, negsuc, nat_eq, if◌then◌else◌}
use Rattle.apex_types.specs.declared.record.Body.{Body}
use Rattle.apex_types.specs.declared.record.Body.TheVariants.{Arrive, Call, Depart, Ret, Disp, Tick, Error}
use Rattle.apex_types.specs.declared.record.Call.{Call as CallRecord}
use Rattle.apex_types.specs.declared.record.Ordered.{Ordered}
use Rattle.apex_types.specs.declared.record.Return.{Return}
use Rattle.apex_types.specs.declared.record.Who.{Who}
use Rattle.apex_types.specs.declared.view.View.{View}
use Rattle.apex_types.specs.Numbers.{code_number, out_number}
use Rattle.apex_types.specs.Services.{service_number}
use Rattle.apex_types.specs.Requested.{service_of}
use Rattle.apex_types.specs.declared.record.Out.TheVariants as out
use Rattle.apex_machine.specs.declared.state.CoreState.{CoreState}
use Rattle.apex_machine.specs.declared.state.Process.{Process}
use Rattle.apex_machine.specs.Pieces.{ChannelPart, Module, ModulePart, OfPartition, Part, PartitionPart, Piece}
use Rattle.apex_machine.specs.Configuration.{Configuration}
use Rattle.apex_machine.specs.State.{State, Table, item_at, time_of}
use Rattle.apex_machine.specs.Step.{Run}
use Rattle.apex_types.specs.declared.record.ErrorReport.{ErrorReport}

-- a field that the record does not have
abbrev pub absent : ℤ
absent = negsuc 0

-- a value that a record claims, as a field
abbrev pub value_number : Option ℤ → ℤ
value_number None = absent
value_number (Some value) = value

-- the current priority of a process, as a field
abbrev pub priority_field : Option Process → ℤ
priority_field None = absent
priority_field (Some process) = pos process.current_priority

-- the time since a process's last call, as a field
abbrev pub elapsed_field : ℕ → Option Process → ℤ
elapsed_field now None = absent
elapsed_field now (Some process) = pos (now - process.called_at)

-- the view of a call, at this time of its core
abbrev pub call_view : ℕ → ℕ → CallRecord → View
call_view core now call = record {
  kind = pos 0;
  core = pos core;
  time = pos now;
  part = pos call.who.part;
  proc = pos call.who.proc;
  service = pos (service_number (service_of call.request));
  prio = pos call.claim.prio;
  out = pos (out_number call.claim.out);
  val = value_number call.claim.val;
  elapsed = absent;
  woken = pos (length call.claim.woken);
}

-- the view of a return, at this time of its core: with the returner's current priority, and the time since its call
abbrev pub return_view : ℕ → ℕ → Option Process → Return → View
return_view core now returner ret = record {
  kind = pos 1;
  core = pos core;
  time = pos now;
  part = pos ret.who.part;
  proc = pos ret.who.proc;
  service = pos (service_number ret.service);
  prio = priority_field returner;
  out = pos (code_number ret.code);
  val = value_number ret.val;
  elapsed = elapsed_field now returner;
  woken = pos 0;
}

-- a number of a process that a dispatch names, if it names one
abbrev pub who_field : (Who → ℕ) → Option Who → ℤ
who_field number None = absent
who_field number (Some who) = pos (number who)

-- the view of a dispatch, a tick, an arrival or a departure, at the core's time after it
abbrev pub core_view : ℕ → ℕ → ℕ → Option Who → ℕ → View
core_view kind core time who woken = record {
  kind = pos kind;
  core = pos core;
  time = pos time;
  part = who_field (λ one. one.part) who;
  proc = who_field (λ one. one.proc) who;
  service = absent;
  prio = absent;
  out = absent;
  val = absent;
  elapsed = absent;
  woken = pos woken;
}

-- the outcome of an error, as a field: that of a call that does not return, if the error restarts its partition
abbrev pub restart_field : Bool → ℤ
restart_field true = pos (out_number out.Never)
restart_field false = absent

-- the view of an error, at this time of its core
abbrev pub error_view : ℕ → ℕ → ErrorReport → View
error_view core now report = record (core_view 6 core now (Some report.who) 0) { out = restart_field report.restarts }

-- the view of a record in a run of the machine, read from the state before the record
abbrev pub view_by : State → ℕ → Body → View
view_by state core (Call call) = call_view core (time_of state.cores core) call
view_by state core (Ret ret) =
    return_view core (time_of state.cores core) (item_at (state.partitions ret.who.part).table ret.who.proc) ret
view_by state core (Disp who) = core_view 2 core (time_of state.cores core) who 0
view_by state core (Tick woken) = core_view 3 core (time_of state.cores core + 1) None (length woken)
view_by state core (Arrive crossing) = core_view 4 core (time_of state.cores core) None (length crossing.woken)
view_by state core (Depart crossing) = core_view 5 core (time_of state.cores core) None (length crossing.woken)
view_by state core (Error report) = error_view core (time_of state.cores core) report

-- the view of an ordered record in a run of the machine
abbrev pub view_of : State → Ordered → View
view_of state ordered = view_by state ordered.core ordered.rec.body

-- the views of the records of a run, each from the state before its record
abbrev pub run_views : (configuration : Configuration) (state : State) (records : List Ordered) (final : State) → Run configuration state records final → List View
run_views configuration state [] final run = []
run_views configuration state (ordered ∷ others) final run = view_of state ordered ∷ run_views configuration run.0 others final run.2

-- the view that a partition gives of each of its own calls and returns
abbrev pub partition_view : ℕ → List CoreState → Table → ℕ → Body → Option View
partition_view number cores table core (Call call) =
    if nat_eq call.who.part number then Some (call_view core (time_of cores core) call) else None
partition_view number cores table core (Ret ret) =
    if nat_eq ret.who.part number then Some (return_view core (time_of cores core) (item_at table ret.who.proc) ret) else None
partition_view number cores table core _ = None

-- the view that the module gives of each dispatch, tick, arrival, departure and error
abbrev pub module_view : List CoreState → ℕ → Body → Option View
module_view cores core (Disp who) = Some (core_view 2 core (time_of cores core) who 0)
module_view cores core (Tick woken) = Some (core_view 3 core (time_of cores core + 1) None (length woken))
module_view cores core (Arrive crossing) = Some (core_view 4 core (time_of cores core) None (length crossing.woken))
module_view cores core (Depart crossing) = Some (core_view 5 core (time_of cores core) None (length crossing.woken))
module_view cores core (Error report) = Some (error_view core (time_of cores core) report)
module_view cores core _ = None

-- the view that the holder of a part gives of a record, from the part before it
abbrev pub view_in : Part → Ordered → Option View
view_in (ModulePart cores) ordered = module_view cores ordered.core ordered.rec.body
view_in (PartitionPart number cores partition) ordered = partition_view number cores partition.table ordered.core ordered.rec.body
view_in (ChannelPart number times channel) ordered = None

-- the piece that judges a record, and gives its view
abbrev pub judge_by : Body → Piece
judge_by (Call call) = OfPartition call.who.part
judge_by (Ret ret) = OfPartition ret.who.part
judge_by (Disp who) = Module
judge_by (Tick woken) = Module
judge_by (Arrive crossing) = Module
judge_by (Depart crossing) = Module
judge_by (Error report) = Module

-- the piece that judges an ordered record
abbrev pub judge : Ordered → Piece
judge ordered = judge_by ordered.rec.body
