-- What is shown of objects and channels.
use Rattle.std.specs.Prelude.{◌≡◌, ℕ, List, [], Option, Some, None, Bool, false, nat_eq, length, option_map, slice_get}
use Rattle.std.specs.List.{find}
use Rattle.apex_types.specs.declared.discipline.Discipline.{Discipline}
use Rattle.apex_types.specs.declared.discipline.Discipline.TheVariants.{Priority}
use Rattle.apex_types.specs.declared.object_kind.ObjectKind.{ObjectKind}
use Rattle.apex_types.specs.declared.object_kind.ObjectKind.TheVariants as kind
use Rattle.apex_machine.specs.declared.state.Entry.{Entry}
use Rattle.apex_machine.specs.Pieces.{Part, ChannelPart, PartitionPart}
use Rattle.apex_machine.specs.State.{Blackboard, Buffer, Channel, Content, Event, Lock, Mutex, Partition, Queued, Sampled, Semaphore, Stamped, item_at}
use Rattle.channel.specs.Held.{Held, Settings, ForQueuing, ForSampling}
use Rattle.wait_set.specs.Queues.{Queue}
use Rattle.piece_check.specs.Parts.{Holding}
use Rattle.run_view.specs.declared.thing.Contents.{Contents}
use Rattle.run_view.specs.declared.thing.Contents.TheVariants as contents
use Rattle.run_view.specs.declared.thing.ThingKey.{ThingKey}
use Rattle.run_view.specs.declared.thing.ThingKey.TheVariants as key
use Rattle.run_view.specs.declared.thing.ThingView.{ThingView}
use Rattle.run_view.specs.declared.waiter.Waiter.{Waiter}
use Rattle.run_view.specs.Waiters.{first_in_turn, in_turn}

-- all of these entries, in the order in which their waits end under this discipline
abbrev pub all_in_turn : Discipline → List Entry → List Waiter
all_in_turn discipline entries = first_in_turn (length entries) discipline entries

-- all of these entries, in the order of some discipline: the order does not matter if all these waits end at once
abbrev pub AreAll : List Entry → List Waiter → Type 0
AreAll entries waiters = (discipline : Discipline) × (waiters ≡ all_in_turn discipline entries)

-- a queue is shown by the number of its messages, its capacity and its oldest message
abbrev pub ShowsQueue : List (List ℕ) → ℕ → Contents → Type 0
ShowsQueue messages capacity (contents.Queue count room oldest) =
    (count ≡ length messages) × (room ≡ capacity) × (option_map (λ bytes. bytes.items) oldest ≡ slice_get messages 0)
ShowsQueue messages capacity other = ⊥

-- a blackboard is shown by its message, if it has one
abbrev pub ShowsBoard : Option (List ℕ) → Contents → Type 0
ShowsBoard message (contents.Board shown) = option_map (λ bytes. bytes.items) shown ≡ message
ShowsBoard message other = ⊥

-- a queue with this name is shown by its messages, and by the processes that wait to send and to receive
abbrev pub ShowsQueued : List ℕ → Queue → ThingView → Type 0
ShowsQueued name queue view =
    (view.name.items ≡ name)
    × ShowsQueue queue.messages queue.capacity view.contents
    × (view.senders.items ≡ in_turn queue.senders)
    × (view.waiters.items ≡ in_turn queue.receivers)

-- what is shown of a buffer: its messages, and the processes that wait to send and to receive
abbrev pub ShowsBuffer : Buffer → ThingView → Type 0
ShowsBuffer buffer view =
    (view.name.items ≡ buffer.name)
    × ShowsQueue buffer.messages buffer.capacity view.contents
    × (view.senders.items ≡ all_in_turn buffer.discipline buffer.senders)
    × (view.waiters.items ≡ all_in_turn buffer.discipline buffer.receivers)

-- at any other object or channel nobody waits to send

abbrev pub ShowsBlackboard : Blackboard → ThingView → Type 0
ShowsBlackboard board view =
    (view.name.items ≡ board.name) × ShowsBoard board.message view.contents × (view.senders.items ≡ []) × AreAll board.readers view.waiters.items

abbrev pub ShowsSemaphore : Semaphore → ThingView → Type 0
ShowsSemaphore semaphore view =
    (view.name.items ≡ semaphore.name)
    × (view.contents ≡ contents.Semaphore semaphore.value semaphore.maximum)
    × (view.senders.items ≡ [])
    × (view.waiters.items ≡ all_in_turn semaphore.discipline semaphore.waiters)

abbrev pub ShowsEvent : Event → ThingView → Type 0
ShowsEvent event view =
    (view.name.items ≡ event.name) × (view.contents ≡ contents.Event event.up) × (view.senders.items ≡ []) × AreAll event.waiters view.waiters.items

abbrev pub ShowsMutex : Mutex → ThingView → Type 0
ShowsMutex mutex view =
    (view.name.items ≡ mutex.name)
    × (view.contents ≡ contents.Mutex mutex.owner mutex.count mutex.priority)
    × (view.senders.items ≡ [])
    × (view.waiters.items ≡ all_in_turn mutex.discipline mutex.waiters)

-- what is shown of the lock of a partition, which has no name: its owner, its level, and the processes that wait
abbrev pub ShowsLock : Lock → ThingView → Type 0
ShowsLock lock view =
    (view.name.items ≡ [])
    × (view.contents ≡ contents.Lock lock.owner lock.level)
    × (view.senders.items ≡ [])
    × (view.waiters.items ≡ all_in_turn Priority lock.waiters)

-- an object is shown if it exists
abbrev pub Shows : {Object : Type 0} → (Object → ThingView → Type 0) → Option Object → Option ThingView → Type 0
Shows shows None None = Unit {0}
Shows shows (Some object) (Some view) = shows object view
Shows shows object view = ⊥

-- what is shown of the object of this kind and number of a partition; a port holds nothing
abbrev pub ShowsObject : ObjectKind → ℕ → Partition → Option ThingView → Type 0
ShowsObject kind.Buffer number partition view = Shows ShowsBuffer (item_at partition.buffers number) view
ShowsObject kind.Blackboard number partition view = Shows ShowsBlackboard (item_at partition.blackboards number) view
ShowsObject kind.Semaphore number partition view = Shows ShowsSemaphore (item_at partition.semaphores number) view
ShowsObject kind.Event number partition view = Shows ShowsEvent (item_at partition.events number) view
ShowsObject kind.Mutex number partition view = Shows ShowsMutex (item_at partition.mutexes number) view
ShowsObject kind.SamplingPort number partition view = view ≡ None
ShowsObject kind.QueuingPort number partition view = view ≡ None

-- a sampling channel is shown by the message that was last written, and when
abbrev pub ShowsSample : Option Stamped → Contents → Type 0
ShowsSample last (contents.Sampled written) = option_map {U = Stamped} (λ sample. record { message = sample.0.items; stamp = sample.1 }) written ≡ last
ShowsSample last other = ⊥

-- what is shown of a channel: what it holds, its settings, and who waits at its two ends; nobody waits at a sampling
-- channel
abbrev pub ShowsHeld : Content → Settings → List Entry → List Entry → ThingView → Type 0
ShowsHeld (Sampled last) settings senders receivers view = ShowsSample last view.contents × (view.senders.items ≡ []) × (view.waiters.items ≡ [])
ShowsHeld (Queued messages) (ForQueuing settings) senders receivers view =
    ShowsQueue messages settings.capacity view.contents
    × (view.senders.items ≡ all_in_turn settings.sending senders)
    × (view.waiters.items ≡ all_in_turn settings.receiving receivers)
ShowsHeld (Queued messages) (ForSampling settings) senders receivers view = ⊥

-- what is shown of a channel; it has no name
abbrev pub ShowsChannel : Held → ThingView → Type 0
ShowsChannel held view = (view.name.items ≡ []) × ShowsHeld held.channel.content held.settings held.channel.senders held.channel.receivers view

-- what is shown of a channel, for some settings: its part does not hold them
abbrev pub ShowsPlain : Channel → ThingView → Type 0
ShowsPlain channel view =
    (settings : Settings) × (view.name.items ≡ []) × ShowsHeld channel.content settings channel.senders channel.receivers view

-- whether an object, a lock or a channel is in this part: an object and a lock are in that of their partition
abbrev pub holds : Part → ThingKey → Bool
holds (PartitionPart number cores partition) (key.Object part kind object) = nat_eq number part
holds (PartitionPart number cores partition) (key.Lock part) = nat_eq number part
holds (ChannelPart number times channel) (key.Channel chosen) = nat_eq number chosen
holds part key = false

-- what is shown of an object or a channel that is in this part
abbrev pub ShowsIn : Part → ThingKey → Option ThingView → Type 0
ShowsIn (PartitionPart number cores partition) (key.Object part kind object) view = ShowsObject kind object partition view
ShowsIn (PartitionPart number cores partition) (key.Lock part) view = Shows ShowsLock (Some partition.lock) view
ShowsIn (ChannelPart number times channel) (key.Channel chosen) view = Shows ShowsPlain (Some channel) view
ShowsIn part key view = view ≡ None

-- what is shown of an object or a channel that is in the part of this piece, if there is one
abbrev pub ShowsInOne : Option Holding → ThingKey → Option ThingView → Type 0
ShowsInOne (Some holding) key view = ShowsIn holding.part key view
ShowsInOne None key view = view ≡ None

-- what is shown of an object or a channel: it is in the first piece whose part holds it
abbrev pub ShowsThing : ThingKey → List Holding → Option ThingView → Type 0
ShowsThing key holdings view = ShowsInOne (find (λ holding. holds holding.part key) holdings) key view
