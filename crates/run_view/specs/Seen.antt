-- What is seen of a piece, and what a look finds there.
use Rattle.std.specs.Prelude.{◌≡◌, ◌⊎◌, ℕ, List, [], Option, Some, None, Bool, true, false, IsTrue, IsFalse, ◌==◌, length, map, option_map, slice_get, slice_index_or, if◌then◌else◌}
use Rattle.apex_types.specs.declared.object_kind.ObjectKind.{ObjectKind}
use Rattle.apex_types.specs.declared.object_kind.ObjectKind.TheVariants as kind
use Rattle.apex_types.specs.declared.record.Body.{Body}
use Rattle.apex_types.specs.declared.record.Body.TheVariants.{Tick}
use Rattle.apex_types.specs.declared.record.Ordered.{Ordered}
use Rattle.apex_machine.specs.declared.state.Mode.{Mode}
use Rattle.apex_machine.specs.Configuration.{Configuration}
use Rattle.apex_machine.specs.Pieces.{Part, ChannelPart, ModulePart, PartitionPart, touches}
use Rattle.apex_machine.specs.State.{Channel, Lock, Partition}
use Rattle.piece_check.specs.Parts.{Holding, holder}
use Rattle.run_view.specs.declared.change.Change.{Change}
use Rattle.run_view.specs.declared.change.Change.TheVariants as variant
use Rattle.run_view.specs.declared.cores.CoreView.{CoreView}
use Rattle.run_view.specs.declared.last_seen.LastSeen.{LastSeen}
use Rattle.run_view.specs.declared.last_seen.SeenPiece.{SeenPiece}
use Rattle.run_view.specs.declared.seen_process.SeenProcess.{SeenProcess}
use Rattle.run_view.specs.declared.thing.ThingKey.TheVariants as key
use Rattle.run_view.specs.declared.thing.ThingView.{ThingView}
use Rattle.run_view.specs.Adds.{IsOfAny}
use Rattle.run_view.specs.CoreChanges.{IsItsChange}
use Rattle.run_view.specs.Cores.{shown_cores}
use Rattle.run_view.specs.ObjectChanges.{IsFoundInKind}
use Rattle.run_view.specs.Objects.{ShowsKind}
use Rattle.run_view.specs.Plain.{PlainObject, PlainThing, plain, plain_objects}
use Rattle.run_view.specs.ProcessChanges.{IsFoundInProcesses}
use Rattle.run_view.specs.Processes.{shown_entry}
use Rattle.run_view.specs.Things.{ShowsLock, ShowsPlain}

-- what is seen of a piece: the cores of the module; the mode, the processes, the lock and the objects of a partition; a channel
pub record PieceSeen : Type 0 where
  pub cores : List CoreView
  pub mode : Option Mode
  pub processes : List SeenProcess
  pub lock : Option PlainThing
  pub buffers : List PlainObject
  pub blackboards : List PlainObject
  pub semaphores : List PlainObject
  pub events : List PlainObject
  pub mutexes : List PlainObject
  pub channel : Option PlainThing

-- the objects of a kind that are seen; a port holds nothing, and is not seen
abbrev pub objects_of : PieceSeen → ObjectKind → List PlainObject
objects_of seen kind.Buffer = seen.buffers
objects_of seen kind.Blackboard = seen.blackboards
objects_of seen kind.Semaphore = seen.semaphores
objects_of seen kind.Event = seen.events
objects_of seen kind.Mutex = seen.mutexes
objects_of seen kind.SamplingPort = []
objects_of seen kind.QueuingPort = []

-- nothing is seen
abbrev pub nothing_seen : PieceSeen
nothing_seen = record { cores = []; mode = None; processes = []; lock = None; buffers = []; blackboards = []; semaphores = []; events = []; mutexes = []; channel = None }

-- a channel or a lock that is seen, if one is
abbrev pub option_plain : Option ThingView → Option PlainThing
option_plain view = option_map plain view

abbrev pub piece_seen : SeenPiece → PieceSeen
piece_seen piece = record {
  cores = piece.cores.items;
  mode = piece.mode;
  processes = piece.processes.items;
  lock = option_plain piece.lock;
  buffers = plain_objects piece.buffers.items;
  blackboards = plain_objects piece.blackboards.items;
  semaphores = plain_objects piece.semaphores.items;
  events = plain_objects piece.events.items;
  mutexes = plain_objects piece.mutexes.items;
  channel = option_plain piece.channel;
}

-- what was last seen of the piece of this number
abbrev pub seen_of : LastSeen → ℕ → PieceSeen
seen_of seen number = slice_index_or (map piece_seen seen.pieces.items) number nothing_seen

-- of how many pieces something can be seen
abbrev pub room_of : LastSeen → ℕ
room_of seen = length seen.pieces.items

-- a lock is seen as it is; one that is free may be unseen
abbrev pub SeesLock : Lock → Option PlainThing → Type 0
SeesLock lock seen = ((lock.owner ≡ None) × (seen ≡ None)) ⊎ ((view : ThingView) × ShowsLock lock view × (seen ≡ Some (plain view)))

-- a partition is seen as it is
pub record SeesPartition (partition : Partition) (seen : PieceSeen) : Type 0 where
  pub mode : seen.mode ≡ Some partition.mode
  pub processes : seen.processes ≡ map shown_entry partition.table
  pub lock : SeesLock partition.lock seen.lock
  pub objects : (kind : ObjectKind) → ShowsKind kind partition (objects_of seen kind)

-- a channel is seen as it is
abbrev pub SeesChannel : Channel → Option PlainThing → Type 0
SeesChannel channel seen = (view : ThingView) × ShowsPlain channel view × (seen ≡ Some (plain view))

-- a part is seen as it is
abbrev pub Sees : Configuration → Part → PieceSeen → Type 0
Sees configuration (ModulePart cores) seen = seen.cores ≡ shown_cores configuration cores
Sees configuration (PartitionPart number cores partition) seen = SeesPartition partition seen
Sees configuration (ChannelPart number times channel) seen = SeesChannel channel seen.channel

-- the change of a mode, if it was not seen as it is now
abbrev pub IsFoundInMode : ℕ → Option Mode → Option Mode → Change → Type 0
IsFoundInMode part before after change = (mode : Mode) × (after ≡ Some mode) × (¬ (before ≡ after)) × (change ≡ variant.Mode part mode)

-- the change of a lock, if it was not seen as it is now
abbrev pub IsFoundInLock : ℕ → Option PlainThing → Option PlainThing → Change → Type 0
IsFoundInLock part before after change = (¬ (before ≡ after)) × (change ≡ variant.Thing (key.Lock part))

-- a change of what a partition holds: of its mode, of its processes, of its lock, or of its objects of some kind
abbrev pub IsFoundInPartition : ℕ → PieceSeen → PieceSeen → Change → Type 0
IsFoundInPartition part before after change =
    IsFoundInMode part before.mode after.mode change
    ⊎ IsFoundInProcesses part before.processes after.processes change
    ⊎ IsFoundInLock part before.lock after.lock change
    ⊎ ((kind : ObjectKind) × IsFoundInKind part kind (objects_of before kind) (objects_of after kind) change)

-- the change of a channel, if it was not seen as it is now
abbrev pub IsFoundInChannel : ℕ → Option PlainThing → Option PlainThing → Change → Type 0
IsFoundInChannel number before after change = (¬ (before ≡ after)) × (change ≡ variant.Thing (key.Channel number))

-- a difference between what was seen of a part before and what is seen of it after
abbrev pub IsFoundInPart : Part → PieceSeen → PieceSeen → Change → Type 0
IsFoundInPart (ModulePart cores) before after change = IsOfAny (IsItsChange before.cores) after.cores change
IsFoundInPart (PartitionPart number cores partition) before after change = IsFoundInPartition number before after change
IsFoundInPart (ChannelPart number times channel) before after change = IsFoundInChannel number before.channel after.channel change

-- whether a record is a tick that ends no wait
abbrev pub ends_no_wait : Body → Bool
ends_no_wait (Tick woken) = length woken == 0
ends_no_wait other = false

abbrev pub is_module : Part → Bool
is_module (ModulePart cores) = true
is_module other = false

-- whether a look after this record is at a part: at each part that the record touches, and at each part if there is no record; a tick that
-- ends no wait changes only the time of its core, which the module has
abbrev pub looks_at : Configuration → Part → Option Ordered → Bool
looks_at configuration part None = true
looks_at configuration part (Some ordered) =
    if ends_no_wait ordered.rec.body then is_module part else touches configuration (holder part) ordered

-- what a look leaves as seen of a part: the part as it is if the look is at it, and what was seen before if not
pub record SeesAfter (configuration : Configuration) (part : Part) (ordered : Option Ordered) (before after : PieceSeen) : Type 0 where
  pub looked : IsTrue (looks_at configuration part ordered) → Sees configuration part after
  pub passed : IsFalse (looks_at configuration part ordered) → after ≡ before

-- this is the holding of the piece of this number
abbrev pub IsHolding : List Holding → ℕ → Holding → Type 0
IsHolding holdings number holding = slice_get holdings number ≡ Some holding

-- what a look at these pieces leaves as seen
abbrev pub SeesAllAfter : Configuration → List Holding → Option Ordered → LastSeen → LastSeen → Type 0
SeesAllAfter configuration holdings ordered before after =
    (number : ℕ) (holding : Holding) → IsHolding holdings number holding
    → SeesAfter configuration holding.part ordered (seen_of before number) (seen_of after number)

-- a difference that a look finds in the piece of this number
abbrev pub IsFoundAt : Configuration → Part → Option Ordered → PieceSeen → PieceSeen → Change → Type 0
IsFoundAt configuration part ordered before after change = IsTrue (looks_at configuration part ordered) × IsFoundInPart part before after change

-- a difference that a look finds in one of these pieces
abbrev pub IsFound : Configuration → List Holding → Option Ordered → LastSeen → LastSeen → Change → Type 0
IsFound configuration holdings ordered before after change =
    (number : ℕ) × (holding : Holding) × IsHolding holdings number holding
    × IsFoundAt configuration holding.part ordered (seen_of before number) (seen_of after number) change
