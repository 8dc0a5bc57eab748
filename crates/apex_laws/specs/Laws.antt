-- The laws that tie the pieces to the machine. Each is the contract of a function in `src/lib.rt`.
use Rattle.std.specs.Prelude.{◌<◌, ◌≡◌, ◌↔◌, ℕ, List, [], ◌∷◌, Option, Some, None, IsTrue, IsFalse, Contains, not, is_some, ◌&&◌, Bool, true, false, if◌then◌else◌}
use Rattle.apex_types.specs.declared.record.Ordered.{Ordered}
use Rattle.apex_types.specs.declared.record.Who.{Who}
use Rattle.apex_types.specs.declared.shape.End.{End}
use Rattle.apex_types.specs.declared.shape.End.TheVariants.{Senders, Receivers}
use Rattle.apex_machine.specs.declared.state.Direction.{Direction}
use Rattle.apex_machine.specs.declared.state.Direction.TheVariants as direction
use Rattle.apex_machine.specs.declared.state.Entry.{Entry}
use Rattle.apex_machine.specs.declared.state.Process.{Process}
use Rattle.apex_machine.specs.declared.state.Wait.TheVariants as wait
use Rattle.apex_machine.specs.declared.state.WaitingSet.{WaitingSet}
pub use Rattle.apex_machine.specs.Channels.{EndsAreApart}
use Rattle.apex_machine.specs.Channels.{is_receiver, is_sender, queuing_of}
use Rattle.apex_machine.specs.Choice.{IsChosen, IsChosenIn, IsChosenUnder, IsReady, choice_under, foremost, partition_choice, ready_entries}
use Rattle.apex_machine.specs.Configuration.{Configuration}
pub use Rattle.apex_machine.specs.Configuration.{WindowsAreConfigured}
use Rattle.apex_machine.specs.Demands.{LocalStep, has_entry_in}
use Rattle.apex_machine.specs.Pieces.{Part, Piece, is_configured, part, touches}
use Rattle.apex_machine.specs.Runs.{ArePlaced, Finds, PieceRun, Refusal}
use Rattle.apex_machine.specs.State.{Channel, Content, Queued, Sampled, Partition, Port, State, Table, channel_set, cold_state, entries_at_end, is_of_channel, is_same, item_at, objects_of}
use Rattle.apex_machine.specs.Step.{Run, Step}
use Rattle.apex_machine.specs.Views.{judge, view_in, view_of}
use Rattle.apex_machine.specs.DueTimes.{waits_for_lock}
use Rattle.apex_machine.specs.Waiting.{waits_at}

-- the tie of the states that a run reaches

-- the numbers of processes, or of the objects of a kind, are distinct
abbrev pub are_distinct : {Item : Type 0} → List (ℕ × Item) → Bool
are_distinct [] = true
are_distinct (entry ∷ entries) = not (is_some (item_at entries entry.0)) && are_distinct entries

-- the numbers of every table are distinct
abbrev pub AreDistinct : State → Type 0
AreDistinct state = (number : ℕ) → IsTrue (are_distinct (state.partitions number).table)

-- each dormant process of a table waits for nothing
abbrev pub DormantWaitNot : Table → Type 0
DormantWaitNot table = (number : ℕ) (process : Process) → item_at table number ≡ Some process → IsFalse process.alive → process.wait ≡ wait.Nothing

-- a fact about each entry of a waiting set
abbrev pub AllEntries : (Entry → Type 0) → List Entry → Type 0
AllEntries Fact [] = Unit {0}
AllEntries Fact (entry ∷ entries) = Fact entry × AllEntries Fact entries

-- the entries that an object has, if it is created
abbrev pub entries_in : {Object : Type 0} → (Object → List Entry) → Option Object → List Entry
entries_in entries_of None = []
entries_in entries_of (Some object) = entries_of object

-- the entries of a waiting set of a partition; a partition has none of a channel's
abbrev pub entries_at : Partition → WaitingSet → List Entry
entries_at partition wanted = entries_in (entries_at_end wanted.kind wanted.end) (item_at (objects_of partition wanted.kind) wanted.number)

-- the process of an entry is of a partition that may wait in the set, and waits in it
abbrev pub IsTied : (ℕ → Type 0) → WaitingSet → (ℕ → Partition) → Entry → Type 0
IsTied Home wanted partitions entry =
    Home entry.who.part × IsTrue (waits_at wanted (item_at (partitions entry.who.part).table entry.who.proc))

-- a queuing port is at its partition's end of its channel
abbrev pub IsAtEnd : Configuration → ℕ → Direction → ℕ → Type 0
IsAtEnd configuration partition direction.Source channel = IsTrue (is_sender configuration channel partition)
IsAtEnd configuration partition direction.Destination channel = IsTrue (is_receiver configuration channel partition)

-- a fact about each port
abbrev pub AllPorts : (Port → Type 0) → List (ℕ × Port) → Type 0
AllPorts Fact [] = Unit {0}
AllPorts Fact (entry ∷ entries) = Fact entry.1 × AllPorts Fact entries

-- the process of an entry is of this partition, and waits for its lock
abbrev pub IsTiedToLock : ℕ → (ℕ → Partition) → Entry → Type 0
IsTiedToLock number partitions entry = (entry.who.part ≡ number) × IsTrue (waits_for_lock (item_at (partitions number).table entry.who.proc))

-- the tie: numbers are distinct; a process with an entry in a waiting set of a partition is of that partition, a process with an entry in a
-- channel's set is of the partition at that end, and each of them waits in the set; a process with an entry in the set of a lock is of the
-- lock's partition, and waits for the lock; each queuing port is at its end of its channel; no dormant process waits
pub record AreTied (configuration : Configuration) (state : State) : Type 0 where
  pub distinct : AreDistinct state
  pub objects : (number : ℕ) (wanted : WaitingSet) → AllEntries (IsTied (λ home. home ≡ number) wanted state.partitions) (entries_at (state.partitions number) wanted)
  pub locks : (number : ℕ) → AllEntries (IsTiedToLock number state.partitions) (state.partitions number).lock.waiters
  pub senders : (number : ℕ) → AllEntries (IsTied (λ home. IsTrue (is_sender configuration number home)) (channel_set number Senders) state.partitions) (state.channels number).senders
  pub receivers : (number : ℕ) → AllEntries (IsTied (λ home. IsTrue (is_receiver configuration number home)) (channel_set number Receivers) state.partitions) (state.channels number).receivers
  pub ports : (number : ℕ) → AllPorts (λ port. IsAtEnd configuration number port.direction port.channel) (state.partitions number).queuing_ports
  pub dormant : (number : ℕ) → DormantWaitNot (state.partitions number).table

-- the cold state is tied, a step keeps a state tied, and so does a run
abbrev pub StaysTied : Type 0
StaysTied =
    ((configuration : Configuration) → AreTied configuration (cold_state configuration))
    × ((configuration : Configuration) (state : State) (ordered : Ordered) (next : State)
    → AreTied configuration state → Step configuration state ordered next → AreTied configuration next)
    × ((configuration : Configuration) (records : List Ordered) (state final : State)
    → AreTied configuration state → Run configuration state records final → AreTied configuration final)

-- the order of the entries in the waiting sets of the states that a run reaches

-- a fact about every two entries of a set, the second of which comes after the first
abbrev pub AllPairs : (Entry → Entry → Type 0) → List Entry → Type 0
AllPairs Fact [] = Unit {0}
AllPairs Fact (entry ∷ entries) = AllEntries (Fact entry) entries × AllPairs Fact entries

-- one entry is earlier than another: it has a smaller place, and is of another process
pub record IsEarlier (one other : Entry) : Type 0 where
  pub place : one.place < other.place
  pub differs : IsFalse (is_same one.who other.who)

-- a waiting set is in order: its places rise, no process has two entries in it, and all places are below the next one
pub record IsInOrder (count : ℕ) (entries : List Entry) : Type 0 where
  pub pairs : AllPairs IsEarlier entries
  pub below : AllEntries (λ entry. entry.place < count) entries

-- every waiting set is in order
pub record SetsAreInOrder (state : State) : Type 0 where
  pub objects : (number : ℕ) (wanted : WaitingSet) → IsInOrder state.count (entries_at (state.partitions number) wanted)
  pub locks : (number : ℕ) → IsInOrder state.count (state.partitions number).lock.waiters
  pub senders : (number : ℕ) → IsInOrder state.count (state.channels number).senders
  pub receivers : (number : ℕ) → IsInOrder state.count (state.channels number).receivers

-- a fact about states that holds in the cold state, that a step from a tied state keeps, and that a run from one keeps
abbrev pub IsKept : (State → Type 0) → Type 0
IsKept Fact =
    ((configuration : Configuration) → Fact (cold_state configuration))
    × ((configuration : Configuration) (state : State) (ordered : Ordered) (next : State)
    → AreTied configuration state → Fact state → Step configuration state ordered next → Fact next)
    × ((configuration : Configuration) (records : List Ordered) (state final : State)
    → AreTied configuration state → Fact state → Run configuration state records final → Fact final)

-- the cold state's waiting sets are in order, a step from a tied state keeps them so, and so does a run
abbrev pub StaysInOrder : Type 0
StaysInOrder = IsKept SetsAreInOrder

-- each process that waits in a set has an entry in it

-- the entries at an end of a channel
abbrev pub entries_at_channel : End → Channel → List Entry
entries_at_channel Senders channel = channel.senders
entries_at_channel Receivers channel = channel.receivers

-- where the entries of a waiting set are: a channel's in the channel, any other's in a partition
abbrev pub entries_of : State → ℕ → WaitingSet → List Entry
entries_of state number wanted =
    if is_of_channel wanted then entries_at_channel wanted.end (state.channels wanted.number) else entries_at (state.partitions number) wanted

-- the other side of the tie: every process that waits in a set has an entry in it, and so has every process that waits for a lock
abbrev pub WaitersHaveEntries : State → Type 0
WaitersHaveEntries state =
    ((who : Who) (wanted : WaitingSet) → IsTrue (waits_at wanted (item_at (state.partitions who.part).table who.proc)) → IsTrue (has_entry_in who (entries_of state who.part wanted)))
    × ((who : Who) → IsTrue (waits_for_lock (item_at (state.partitions who.part).table who.proc)) → IsTrue (has_entry_in who (state.partitions who.part).lock.waiters))

-- the cold state has this, a step from a tied state keeps it, and so does a run
abbrev pub WhoWaitsHasEntry : Type 0
WhoWaitsHasEntry = IsKept WaitersHaveEntries

-- what channels hold

-- whether a channel holds messages for its receivers; else it holds the last message for its readers
abbrev pub holds_messages : Content → Bool
holds_messages (Queued messages) = true
holds_messages (Sampled last) = false

-- the queuing channels, and no others, hold messages for their receivers
abbrev pub HoldTheirKind : Configuration → State → Type 0
HoldTheirKind configuration state = (number : ℕ) → holds_messages (state.channels number).content ≡ is_some (queuing_of configuration number)

-- the cold state's channels hold what their kinds do, a step keeps this, and so does a run
abbrev pub KindsStay : Type 0
KindsStay =
    ((configuration : Configuration) → HoldTheirKind configuration (cold_state configuration))
    × ((configuration : Configuration) (state : State) (ordered : Ordered) (next : State)
    → HoldTheirKind configuration state → Step configuration state ordered next → HoldTheirKind configuration next)
    × ((configuration : Configuration) (records : List Ordered) (state final : State)
    → HoldTheirKind configuration state → Run configuration state records final → HoldTheirKind configuration final)

-- steps

-- a record leads from a state to at most one next state
abbrev pub AtMostOneNextState : Type 0
AtMostOneNextState =
    (configuration : Configuration) (state : State) (ordered : Ordered) (one other : State)
    → Step configuration state ordered one → Step configuration state ordered other → one ≡ other

-- if each piece that the next record touches makes its local step, the machine has a step to the state with the parts that the pieces
-- reached; the parts of the other pieces stay
abbrev pub PiecesCompose : Type 0
PiecesCompose =
    (configuration : Configuration) (state : State) (ordered : Ordered) (reached : Piece → Part)
    → WindowsAreConfigured configuration → AreTied configuration state → ordered.pos ≡ state.count
    → ((piece : Piece) → IsTrue (is_configured configuration piece) → IsTrue (touches configuration piece ordered)
    → LocalStep configuration (part piece state) ordered (reached piece))
    → (next : State) × Step configuration state ordered next
    × ((piece : Piece) → IsTrue (is_configured configuration piece) → IsTrue (touches configuration piece ordered) → part piece next ≡ reached piece)
    × ((piece : Piece) → IsTrue (is_configured configuration piece) → IsFalse (touches configuration piece ordered) → part piece next ≡ part piece state)

-- if the machine has a step, each piece that the record touches makes its local step
abbrev pub PiecesFollow : Type 0
PiecesFollow =
    (configuration : Configuration) (state : State) (ordered : Ordered) (next : State)
    → EndsAreApart configuration → AreTied configuration state → Step configuration state ordered next
    → (piece : Piece) → IsTrue (is_configured configuration piece) → IsTrue (touches configuration piece ordered)
    → LocalStep configuration (part piece state) ordered (part piece next)

-- runs

-- runs of all pieces over the records that touch them are one run of the machine, to the parts that the pieces reached
abbrev pub OneRun : Type 0
OneRun =
    (configuration : Configuration) (state : State) (records : List Ordered) (reached : Piece → Part)
    → WindowsAreConfigured configuration → AreTied configuration state → ArePlaced state.count records
    → ((piece : Piece) → IsTrue (is_configured configuration piece) → PieceRun configuration piece (part piece state) records (reached piece))
    → (final : State) × Run configuration state records final
    × ((piece : Piece) → IsTrue (is_configured configuration piece) → part piece final ≡ reached piece)

-- a run of the machine is a run of each piece
abbrev pub RunOfEach : Type 0
RunOfEach =
    (configuration : Configuration) (state : State) (records : List Ordered) (final : State)
    → EndsAreApart configuration → AreTied configuration state → Run configuration state records final
    → (piece : Piece) → IsTrue (is_configured configuration piece) → PieceRun configuration piece (part piece state) records (part piece final)

-- a piece has at most one first refusal
abbrev pub OneFirstRefusal : Type 0
OneFirstRefusal =
    (configuration : Configuration) (piece : Piece) (old : Part) (records : List Ordered) (one other : Option Refusal)
    → Finds configuration piece old records one → Finds configuration piece old records other → one ≡ other

-- views

-- the piece that judges a record gives the view that the record has in the machine's run; no other piece gives one
abbrev pub ViewIsOfTheRun : Type 0
ViewIsOfTheRun =
    (state : State) (ordered : Ordered) (piece : Piece)
    → (piece ≡ judge ordered → view_in (part piece state) ordered ≡ Some (view_of state ordered))
    × (¬ (piece ≡ judge ordered) → view_in (part piece state) ordered ≡ None)

-- the choice

-- the choice among all is the ready process that no other goes before, or none if no process is ready; with an owner of the lock, it is the
-- owner if that one is ready, else the choice among all; in a partition, it is the handler where that is ready, none where the cores stand
-- still, else the choice under the lock
abbrev pub ChoiceIsTheSentence : Type 0
ChoiceIsTheSentence =
    (core : ℕ) (table : Table) → IsTrue (are_distinct table)
    → ((entry : ℕ × Process) → (foremost (ready_entries core table) ≡ Some entry) ↔ IsChosen core table entry)
    × ((foremost (ready_entries core table) ≡ None) ↔ ((entry : ℕ × Process) → Contains table entry → ¬ IsReady core entry.1))
    × ((number : ℕ) (owner : Option ℕ) (entry : ℕ × Process) → Contains table entry
    → (choice_under number core owner table ≡ Some (record { part = number; proc = entry.0 })) ↔ IsChosenUnder core owner table entry)
    × ((number : ℕ) (owner : Option ℕ) → (choice_under number core owner table ≡ None) ↔ ((entry : ℕ × Process) → Contains table entry → ¬ IsReady core entry.1))
    × ((number : ℕ) (partition : Partition) (entry : ℕ × Process) → IsTrue (are_distinct partition.table) → Contains partition.table entry
    → (partition_choice number core partition ≡ Some (record { part = number; proc = entry.0 })) ↔ IsChosenIn core partition entry)
