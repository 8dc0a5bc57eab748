-- What callers see of a piece, and what a step needs of it.
use Rattle.std.specs.Prelude.{◌≡◌, ℕ, ◌<◌, ◌≤◌, List, Bool, Option, Some, None, length, map, slice_index_or}
use Rattle.apex_types.specs.declared.record.Body.{Body}
use Rattle.apex_types.specs.declared.record.Body.TheVariants.{Arrive, Call, Depart, Ret, Disp, Tick, Error}
use Rattle.apex_machine.specs.declared.state.CoreState.{CoreState}
use Rattle.apex_machine.specs.declared.state.Entry.{Entry}
use Rattle.apex_machine.specs.Configuration.{Configuration}
use Rattle.apex_machine.specs.State.{Channel, Partition, time_of}
use Rattle.apex_machine.specs.Pieces.{Piece, Part, Module, ModulePart, OfChannel, OfPartition, PartitionPart, ChannelPart, pieces}
use Rattle.wait_set.specs.declared.object.ObjFault.{ObjFault}
use Rattle.wait_set.specs.declared.object.ObjFault.TheVariants.{Unlawful, Memory}
use Rattle.apex_laws.specs.Laws.{AllEntries}
use Rattle.apex_laws.specs.PartBounds.{IsBoundedPart}
use Rattle.apex_laws.specs.PartLaws.{IsSoundPart}
use Rattle.channel.specs.Held.{SaysTheSame, Settings}

-- a piece: its part of the state, the settings of its channel if it is a channel's, and whether memory was refused to it
pub record Holding : Type 0 where
  pub part : Part
  pub settings : Option Settings
  pub exhausted : Bool

-- the piece of a number
abbrev pub piece_at : Configuration → ℕ → Piece
piece_at configuration number = slice_index_or (pieces configuration) number Module

-- the piece that holds a part
abbrev pub holder : Part → Piece
holder (ModulePart cores) = Module
holder (PartitionPart number cores partition) = OfPartition number
holder (ChannelPart number times channel) = OfChannel number

-- a part is that of a piece
abbrev pub IsPartOf : Piece → Part → Type 0
IsPartOf piece part = holder part ≡ piece

-- a core of which only the time is known
abbrev pub core_at : ℕ → CoreState
core_at time = record { time = time; occupant = None }

-- the cores as a part knows them: a channel knows only their times
abbrev pub cores_of : Part → List CoreState
cores_of (ModulePart cores) = cores
cores_of (PartitionPart number cores partition) = cores
cores_of (ChannelPart number times channel) = map core_at times

-- a part knows this many cores
abbrev pub HasCores : ℕ → Part → Type 0
HasCores count part = length (cores_of part) ≡ count

-- the settings of a channel are what the configuration says of it
abbrev pub AgreesOn : Configuration → Part → Option Settings → Type 0
AgreesOn configuration (ChannelPart number times channel) (Some settings) = SaysTheSame configuration number settings
AgreesOn configuration (ChannelPart number times channel) None = ⊥
AgreesOn configuration (ModulePart cores) settings = Unit {0}
AgreesOn configuration (PartitionPart number cores partition) settings = Unit {0}

-- a piece of a module of this configuration: it knows the module's cores, and its channel is as it is configured
pub record IsOf (configuration : Configuration) (holding : Holding) : Type 0 where
  pub cores : HasCores configuration.cores holding.part
  pub channel : AgreesOn configuration holding.part holding.settings

-- no core's time is above this place: each tick had a place of its own
abbrev pub NoTimeAbove : ℕ → Part → Type 0
NoTimeAbove place part = (core : ℕ) → time_of (cores_of part) core ≤ place

-- a partition's waiting sets are sound before this place, and its numbers are bounded
pub record IsKeptBefore (number place : ℕ) (partition : Partition) : Type 0 where
  pub sound : IsSoundPart number place partition
  pub bounded : IsBoundedPart place partition

-- an entry entered its waiting set before this place, and the number of its process has 32 bits
pub record EnteredBefore (place : ℕ) (entry : Entry) : Type 0 where
  pub earlier : entry.place < place
  pub number : entry.who.proc < 4294967296

-- all processes that wait at a channel entered before this place
pub record WaitBefore (place : ℕ) (channel : Channel) : Type 0 where
  pub senders : AllEntries (EnteredBefore place) channel.senders
  pub receivers : AllEntries (EnteredBefore place) channel.receivers

-- what a part keeps before this place, apart from its times
abbrev pub KeepsBefore : ℕ → Part → Type 0
KeepsBefore place (ModulePart cores) = Unit {0}
KeepsBefore place (PartitionPart number cores partition) = IsKeptBefore number place partition
KeepsBefore place (ChannelPart number times channel) = WaitBefore place channel

-- a part as records at lower places have left it
pub record HoldsBefore (place : ℕ) (part : Part) : Type 0 where
  pub times : NoTimeAbove place part
  pub kept : KeepsBefore place part

-- the number of a caller has 32 bits
abbrev pub CallerFits : Body → Type 0
CallerFits (Call call) = call.who.proc < 4294967296
CallerFits _ = Unit {0}

-- only calls, arrivals, departures and errors may take memory
abbrev pub MayTakeMemory : Body → Type 0
MayTakeMemory (Call call) = Unit {0}
MayTakeMemory (Ret ret) = ⊥
MayTakeMemory (Disp who) = ⊥
MayTakeMemory (Tick woken) = ⊥
MayTakeMemory (Arrive crossing) = Unit {0}
MayTakeMemory (Depart crossing) = Unit {0}
MayTakeMemory (Error report) = Unit {0}

-- only a record that may take memory is refused for a lack of it
abbrev pub WantsWhereAllowed : Body → ObjFault → Type 0
WantsWhereAllowed body (Unlawful cause) = Unit {0}
WantsWhereAllowed body Memory = MayTakeMemory body
