-- The pieces that judge a recording side by side: the module, each partition, each channel. The part of a state that each
-- holds, the records that touch it, and its local step.
use Rattle.std.specs.Prelude.{ℕ, zero, suc, ◌+◌, List, [], ◌∷◌, ◌++◌, Bool, true, false, nat_eq, ◌&&◌, ◌||◌, map, is_some}
use Rattle.apex_types.specs.declared.record.Body.{Body}
use Rattle.apex_types.specs.declared.record.Body.TheVariants.{Arrive, Call, Depart, Ret, Disp, Tick, Error}
use Rattle.apex_types.specs.declared.record.Call.{Call as CallRecord}
use Rattle.apex_types.specs.declared.record.Ordered.{Ordered}
use Rattle.apex_machine.specs.declared.state.CoreState.{CoreState}
use Rattle.apex_machine.specs.After.{channel_after, cores_after, is_channel, partition_after}
use Rattle.apex_machine.specs.Channels.{channel_numbers, has_channel, is_at_end}
use Rattle.apex_machine.specs.Configuration.{Configuration, has_partition}
use Rattle.apex_machine.specs.State.{Channel, Partition, State, names_one_of}
use Rattle.apex_machine.specs.Waiting.{is_no_error, is_restart, stop_of}

-- a piece: the module, the partition of a number, or the channel of a number
pub data Piece : Type 0 where
  Module : Piece
  OfPartition : (number : ℕ) → Piece
  OfChannel : (number : ℕ) → Piece

-- the part of a state that a piece holds: the module holds the cores, a partition the cores and its own state, a channel the times of the
-- cores and its own state
pub data Part : Type 0 where
  ModulePart : (cores : List CoreState) → Part
  PartitionPart : (number : ℕ) → (cores : List CoreState) → (partition : Partition) → Part
  ChannelPart : (number : ℕ) → (times : List ℕ) → (channel : Channel) → Part

-- the times of the cores
abbrev pub times_of : List CoreState → List ℕ
times_of cores = map (λ state. state.time) cores

-- the part of a state that a piece holds
abbrev pub part : Piece → State → Part
part Module state = ModulePart state.cores
part (OfPartition number) state = PartitionPart number state.cores (state.partitions number)
part (OfChannel number) state = ChannelPart number (times_of state.cores) (state.channels number)

-- the pieces by their number: the module is piece 0, then come the partitions and then the channels, each in rising order
abbrev pub pieces : Configuration → List Piece
pieces configuration =
    Module ∷ map (λ limits. OfPartition limits.number) configuration.partitions ++ map (λ number. OfChannel number) (channel_numbers configuration)

-- whether a piece is the module, a configured partition or a configured channel
abbrev pub is_configured : Configuration → Piece → Bool
is_configured configuration Module = true
is_configured configuration (OfPartition number) = has_partition configuration number
is_configured configuration (OfChannel number) = has_channel configuration number

-- whether a call stops processes of its caller's partition: a restart stops all of them, a STOP that is done stops one
abbrev pub stops_some : CallRecord → Bool
stops_some call = is_restart call || (is_some (stop_of call.request) && is_no_error call.claim.out)

-- whether a call stops processes of a partition at an end of this channel
abbrev pub stops_at_end : Configuration → ℕ → CallRecord → Bool
stops_at_end configuration number call = stops_some call && is_at_end configuration number call.who.part

-- every record touches the module; a partition is touched by ticks and dispatches, by its own calls and returns and the errors of its
-- processes, and by a call, an arrival or a departure that names one of its processes; a channel by ticks, by calls through it, by arrivals
-- at it and departures from it, and by a stop or a restart at one of its ends
abbrev pub touched_by : Configuration → Body → Piece → Bool
touched_by configuration body Module = true
touched_by configuration (Disp who) (OfPartition number) = true
touched_by configuration (Tick woken) (OfPartition number) = true
touched_by configuration (Call call) (OfPartition number) = nat_eq call.who.part number || names_one_of number call.claim.woken
touched_by configuration (Ret ret) (OfPartition number) = nat_eq ret.who.part number
touched_by configuration (Disp who) (OfChannel number) = false
touched_by configuration (Tick woken) (OfChannel number) = true
touched_by configuration (Call call) (OfChannel number) = is_channel number call.claim.chan || stops_at_end configuration number call
touched_by configuration (Ret ret) (OfChannel number) = false
touched_by configuration (Arrive crossing) (OfPartition number) = names_one_of number crossing.woken
touched_by configuration (Depart crossing) (OfPartition number) = names_one_of number crossing.woken
touched_by configuration (Arrive crossing) (OfChannel number) = nat_eq crossing.chan number
touched_by configuration (Depart crossing) (OfChannel number) = nat_eq crossing.chan number
touched_by configuration (Error report) (OfPartition number) = nat_eq report.who.part number
touched_by configuration (Error report) (OfChannel number) = report.restarts && is_at_end configuration number report.who.part

-- whether a record touches a piece
abbrev pub touches : Configuration → Piece → Ordered → Bool
touches configuration piece ordered = touched_by configuration ordered.rec.body piece

-- times, as a channel holds them

-- the time of a core
abbrev pub time_at : List ℕ → ℕ → ℕ
time_at [] core = 0
time_at (time ∷ times) zero = time
time_at (time ∷ times) (suc core) = time_at times core

-- the times with one more tick of a core
abbrev pub one_more : ℕ → List ℕ → List ℕ
one_more core [] = []
one_more zero (time ∷ times) = (time + 1) ∷ times
one_more (suc core) (time ∷ times) = time ∷ one_more core times

-- the times after a record
abbrev pub times_by : ℕ → Body → List ℕ → List ℕ
times_by core (Tick woken) times = one_more core times
times_by core _ times = times

-- the part after a record
abbrev pub part_after : Configuration → Part → Ordered → Part
part_after configuration (ModulePart cores) ordered = ModulePart (cores_after ordered cores)
part_after configuration (PartitionPart number cores partition) ordered =
    PartitionPart number (cores_after ordered cores) (partition_after configuration cores number ordered partition)
part_after configuration (ChannelPart number times channel) ordered =
    ChannelPart number (times_by ordered.core ordered.rec.body times)
    (channel_after configuration (time_at times ordered.core) number ordered channel)
