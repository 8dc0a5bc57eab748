-- What a judgement says.
use Rattle.std.specs.Prelude.{◌≡◌, ℕ, List, [], ◌∷◌, None}
use Rattle.apex_types.specs.declared.cause.Cause.TheVariants as cause
use Rattle.apex_types.specs.declared.record.Crossing.{Crossing}
use Rattle.apex_types.specs.declared.shape.End.{End}
use Rattle.apex_types.specs.declared.record.Body.{Body}
use Rattle.apex_machine.specs.Configuration.{Configuration}
pub use Rattle.apex_machine.specs.Demands.{Judges}
use Rattle.apex_types.specs.declared.record.Call.{Call as CallRecord}
use Rattle.apex_types.specs.declared.record.Ordered.{Ordered}
use Rattle.apex_machine.specs.After.{own_partition, restart_of}
use Rattle.apex_machine.specs.Demands.{AllHold, AllWaitAt, Demand, caller_demands, module_demands, own_call_demands, partition_demands}
use Rattle.apex_machine.specs.Pieces.{Part, PartitionPart}
use Rattle.apex_machine.specs.Ports.{channel_of}
use Rattle.apex_machine.specs.State.{Partition, channel_set, time_of}
use Rattle.apex_machine.specs.ServiceConditions.{conditions_of}
use Rattle.partition_state.specs.Calls.{LeavesObjects}
use Rattle.piece_check.specs.declared.module_piece.ModulePiece.{ModulePiece}
use Rattle.piece_check.specs.declared.partition_piece.Course.{Course}
use Rattle.piece_check.specs.declared.partition_piece.Course.TheVariants.{Noted, Served}
use Rattle.piece_check.specs.declared.partition_piece.PartitionPiece.{PartitionPiece}

-- what the module's piece demands of a record of this core
abbrev pub asked_by_module : Configuration → ModulePiece → ℕ → Body → List {1} Demand
asked_by_module configuration piece core body = module_demands configuration piece.clock.cores core body

-- what a partition's piece demands of a record of this core
abbrev pub asked_by_partition : Configuration → PartitionPiece → ℕ → Body → List {1} Demand
asked_by_partition configuration piece core body = partition_demands configuration piece.number piece.clock.cores piece.state core body

-- what a partition's piece demands, before the outcome, of a call of one of its own processes
abbrev pub own_caller_demands : Configuration → PartitionPiece → ℕ → CallRecord → List {1} Demand
own_caller_demands configuration piece core call = caller_demands configuration piece.number piece.clock.cores piece.state core call

-- what a partition of this number demands of an arrival or a departure: its processes that are named wait at this end of the channel
abbrev pub crossing_demands : ℕ → End → Partition → Crossing → List {1} Demand
crossing_demands number end partition crossing =
    record { cause = cause.Woken; holds = AllWaitAt (channel_set crossing.chan end) number partition.table crossing.woken } ∷ []

-- what a partition's piece demands of a call of one of its own processes
abbrev pub own_demands : Configuration → PartitionPiece → ℕ → CallRecord → List {1} Demand
own_demands configuration piece core call = own_call_demands configuration piece.number piece.clock.cores piece.state core call

-- a call of one of its own processes whose claim is left to its service: the demands before the outcome hold, no error condition does, and
-- the call goes through no channel and claims none
pub record IsForService (configuration : Configuration) (piece : PartitionPiece) (core : ℕ) (call : CallRecord) : Type 0 where
  pub caller : AllHold (own_caller_demands configuration piece core call)
  pub clear : conditions_of configuration (time_of piece.clock.cores core) call.who piece.state call.request ≡ []
  pub through : channel_of piece.state call.request ≡ None
  pub apart : call.claim.chan ≡ None

-- how such a call continues: all its demands hold and it leaves the objects of the partition unchanged, or its claim is left to its service
abbrev pub GoesOn : Configuration → PartitionPiece → ℕ → CallRecord → Course → Type 0
GoesOn configuration piece core call Noted = AllHold (own_demands configuration piece core call) × LeavesObjects call
GoesOn configuration piece core call Served = IsForService configuration piece core call

-- the part after such a call
abbrev pub part_called : Configuration → PartitionPiece → Ordered → CallRecord → Part
part_called configuration piece ordered call =
    PartitionPart piece.number piece.clock.cores (own_partition (restart_of configuration call) configuration piece.clock.cores ordered.pos ordered.core call piece.state)
