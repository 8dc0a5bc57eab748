-- What is shown of objects and channels.
use Rattle.std.proofs.Common.{◌≡◌, ◌∙◌, ℕ, List, [], Option, Some, None, Result, true, nat_eq, refl, sym, ap, subst}
use Rattle.std.specs.List.{find}
use Rattle.apex_types.specs.declared.discipline.Discipline.{Discipline}
use Rattle.apex_machine.specs.declared.state.Entry.{Entry}
use Rattle.apex_machine.specs.State.{Buffer, Content, Queued, Sampled, item_at}
use Rattle.wait_set.specs.Sets.{Waiters}
use Rattle.run_view.specs.declared.waiter.Waiter.{Waiter}
use Rattle.run_view.specs.Waiters.{in_turn}
use Rattle.partition_objects.specs.Buffers.{buffer_of}
use Rattle.channel.specs.Held.{Held}
use Rattle.channel.specs.Kinds.{is_sampled, last_written, queuing_held}
use Rattle.wait_set.specs.Queues.{Queue}
use Rattle.piece_check.specs.Parts.{Holding}
use Rattle.run_view.specs.declared.thing.ThingKey.{ThingKey}
use Rattle.run_view.specs.declared.thing.ThingView.{ThingView}
use Rattle.std.specs.Borrow.{Bor}
use Rattle.std.specs.Result.{IfOk}
use Rattle.apex_types.specs.declared.object_kind.ObjectKind.{ObjectKind}
use Rattle.apex_machine.specs.Pieces.{ChannelPart, ModulePart, OfChannel, OfPartition, Part, PartitionPart}
use Rattle.apex_machine.specs.State.{Partition}
use Rattle.scheduling.specs.Clocks.{Clocks}
use Rattle.piece_check.specs.declared.seen.Seen.TheVariants as seen
use Rattle.piece_check.specs.Parts.{holder}
use Rattle.piece_check.specs.Seen.{IsSeen}
use Rattle.run_view.specs.declared.thing.ThingKey.TheVariants as key
use Rattle.run_view.proofs.Parts.{channel_seen, partition_seen}
use Rattle.run_view.specs.Things.{AreAll, Shows, ShowsBuffer, ShowsChannel, ShowsHeld, ShowsIn, ShowsInOne, ShowsLock, ShowsObject, ShowsQueued, ShowsSample, ShowsThing, all_in_turn, holds}

-- nothing is shown of an object that does not exist
pub shows_none : {Object : Type 0} (Shown : Object → ThingView → Type 0) (found : Option Object) → None ≡ found → Shows Shown found None
shows_none Shown found none = subst (λ one. Shows Shown one None) none tt

-- an object that exists is shown
pub shows_some : {Object : Type 0} (Shown : Object → ThingView → Type 0) (object : Object) (found : Option Object) (view : ThingView) → Some object ≡ found → Shown object view
    → Shows Shown found (Some view)
shows_some Shown object found view there shown = subst (λ one. Shows Shown one (Some view)) there shown

-- what a table holds of a number
pub at_table : {Object : Type 0} (table held : List (ℕ × Object)) (number : ℕ) (found : Option Object) → found ≡ item_at held number → held ≡ table → found ≡ item_at table number
at_table table held number found is same = is ∙ ap (λ list. item_at list number) same

-- the processes that wait in a set with this discipline and these entries
pub in_turn_as : (set : Waiters) (discipline : Discipline) (entries : List Entry) (shown : List Waiter) → set.discipline ≡ discipline → set.entries ≡ entries → shown ≡ in_turn set
    → shown ≡ all_in_turn discipline entries
in_turn_as set discipline entries shown disciplined same is =
    is ∙ ap (λ (one : Discipline). all_in_turn one set.entries) disciplined ∙ ap (λ (list : List Entry). all_in_turn discipline list) same

-- those that wait in a set with these entries
pub in_any_turn : (set : Waiters) (entries : List Entry) (shown : List Waiter) → set.entries ≡ entries → shown ≡ in_turn set → AreAll entries shown
in_any_turn set entries shown same is = (set.discipline, in_turn_as set set.discipline entries shown refl same is)

-- a buffer is shown as its queue is
pub buffer_shown : (name : List ℕ) (size : ℕ) (queue : Queue) (buffer : Buffer) (view : ThingView) → buffer_of name size queue ≡ buffer
    → queue.receivers.discipline ≡ buffer.discipline → ShowsQueued name queue view → ShowsBuffer buffer view
buffer_shown name size queue buffer view is receiving shown =
    let disciplined : queue.receivers.discipline ≡ queue.senders.discipline = receiving ∙ sym (ap (λ (one : Buffer). one.discipline) is) in
    let waits : view.waiters.items ≡ all_in_turn queue.senders.discipline queue.receivers.entries =
    shown.3 ∙ ap (λ discipline. all_in_turn discipline queue.receivers.entries) disciplined in
    subst (λ one. ShowsBuffer one view) is (shown.0, shown.1, shown.2, waits)

-- a queuing channel is shown as its queue is
pub queuing_shown : (number size : ℕ) (source destination : Option ℕ) (queue : Queue) (held : Held) (view : ThingView)
    → held ≡ queuing_held number size source destination queue → ShowsQueued [] queue view → ShowsChannel held view
queuing_shown number size source destination queue held view is shown =
    subst (λ one. ShowsChannel one view) (sym is) (shown.0, (shown.1, shown.2, shown.3))

-- a sampling channel is shown by what was last written
pub sampling_shown : (held : Held) (view : ThingView) → is_sampled held.channel.content ≡ true → view.name.items ≡ [] → ShowsSample (last_written held.channel.content) view.contents
    → view.senders.items ≡ [] → view.waiters.items ≡ [] → ShowsChannel held view
sampling_shown held view sampled named shown no_senders nobody = (named, by held.channel.content sampled shown)
  where
    by : (content : Content) → is_sampled content ≡ true → ShowsSample (last_written content) view.contents
        → ShowsHeld content held.settings held.channel.senders held.channel.receivers view
    by (Sampled last) is_it sample = (sample, no_senders, nobody)
    by (Queued messages) is_it sample = cc

-- which part an object, a lock or a channel is in

pub holds_object : (part : Part) (number chosen : ℕ) (kind : ObjectKind) (object : ℕ) → OfPartition number ≡ holder part → nat_eq number chosen ≡ holds part (key.Object chosen kind object)
holds_object (ModulePart cores) number chosen kind object is = cc
holds_object (PartitionPart other cores partition) number chosen kind object is = (let same : number ≡ other = cc in ap (λ one. nat_eq one chosen) same)
holds_object (ChannelPart other times channel) number chosen kind object is = cc

pub holds_lock : (part : Part) (number chosen : ℕ) → OfPartition number ≡ holder part → nat_eq number chosen ≡ holds part (key.Lock chosen)
holds_lock (ModulePart cores) number chosen is = cc
holds_lock (PartitionPart other cores partition) number chosen is = (let same : number ≡ other = cc in ap (λ one. nat_eq one chosen) same)
holds_lock (ChannelPart other times channel) number chosen is = cc

pub holds_channel : (part : Part) (number chosen : ℕ) → OfChannel number ≡ holder part → nat_eq number chosen ≡ holds part (key.Channel chosen)
holds_channel (ModulePart cores) number chosen is = cc
holds_channel (PartitionPart other cores partition) number chosen is = cc
holds_channel (ChannelPart other times channel) number chosen is = (let same : number ≡ other = cc in ap (λ one. nat_eq one chosen) same)

-- what is shown of an object, a lock or a channel that is in a part

pub object_in : {Error : Type 0} (part : Part) (number : ℕ) (clock : Bor Clocks) (state : Bor Partition) (chosen : ℕ) (kind : ObjectKind) (object : ℕ) (result : Result (Option ThingView) Error)
    → IsSeen part (seen.Partition number clock state) → IfOk result (ShowsObject kind object state.now) → IfOk result (ShowsIn part (key.Object chosen kind object))
object_in part number clock state chosen kind object result is shown =
    subst (λ (one : Part). IfOk result (ShowsIn one (key.Object chosen kind object))) (sym (partition_seen part number clock state is)) shown

pub lock_in : (part : Part) (number : ℕ) (clock : Bor Clocks) (state : Bor Partition) (chosen : ℕ) (view : ThingView) → IsSeen part (seen.Partition number clock state)
    → ShowsLock state.now.lock view → ShowsIn part (key.Lock chosen) (Some view)
lock_in part number clock state chosen view is shown =
    subst (λ (one : Part). ShowsIn one (key.Lock chosen) (Some view)) (sym (partition_seen part number clock state is)) shown

pub channel_in : (part : Part) (times : Bor (List ℕ)) (channel : Bor Held) (chosen : ℕ) (view : ThingView) → IsSeen part (seen.Channel times channel) → ShowsChannel channel.now view
    → ShowsIn part (key.Channel chosen) (Some view)
channel_in part times channel chosen view is shown =
    subst (λ (one : Part). ShowsIn one (key.Channel chosen) (Some view)) (sym (channel_seen part times channel is)) (channel.now.settings, shown.0, shown.1)

-- what is shown of an object or a channel is that in the first piece whose part holds it

pub thing_in : {Error : Type 0} (chosen : ThingKey) (holdings : List Holding) (holding : Holding) (result : Result (Option ThingView) Error)
    → Some holding ≡ find (λ (one : Holding). holds one.part chosen) holdings → IfOk result (ShowsIn holding.part chosen) → IfOk result (ShowsThing chosen holdings)
thing_in chosen holdings holding result there shown = subst (λ (one : Option Holding). IfOk result (ShowsInOne one chosen)) there shown

pub thing_nowhere : (chosen : ThingKey) (holdings : List Holding) → None ≡ find (λ (one : Holding). holds one.part chosen) holdings → ShowsThing chosen holdings None
thing_nowhere chosen holdings none = subst (λ (one : Option Holding). ShowsInOne one chosen None) none refl
