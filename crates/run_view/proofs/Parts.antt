-- What is seen of a part.
use Rattle.std.proofs.Common.{◌≡◌, ℕ, zero, suc, List, [], ◌∷◌, Some, arith}
use Rattle.std.specs.Borrow.{Bor}
use Rattle.std.specs.List.{Contains, slice_get}
use Rattle.apex_machine.specs.Pieces.{Part, ChannelPart, ModulePart, PartitionPart}
use Rattle.apex_machine.specs.State.{Partition}
use Rattle.channel.specs.Held.{Held}
use Rattle.scheduling.specs.Clocks.{Clocks}
use Rattle.piece_check.specs.declared.seen.Seen.TheVariants as seen
use Rattle.piece_check.specs.Seen.{IsSeen}

-- an item at an index is one of the list
pub contains_at : {Item : Type 0} (items : List Item) (index : ℕ) (item : Item) → Some item ≡ slice_get items index → Contains items item
contains_at [] index item is = cc
contains_at (first ∷ others) zero item is = (0, omega arith, (let same : first ≡ item = cc in same))
contains_at (first ∷ others) (suc index) item is =
    let there = contains_at others index item is in
    (suc there.0, omega (arith, there.1), there.2)

-- the part of the module
pub module_seen : (part : Part) (clock : Bor Clocks) → IsSeen part (seen.Module clock) → part ≡ ModulePart clock.now.cores
module_seen (ModulePart cores) clock is = cc
module_seen (PartitionPart number cores partition) clock is = absurd is
module_seen (ChannelPart number times channel) clock is = absurd is

-- the part of a partition
pub partition_seen : (part : Part) (number : ℕ) (clock : Bor Clocks) (state : Bor Partition) → IsSeen part (seen.Partition number clock state)
    → part ≡ PartitionPart number clock.now.cores state.now
partition_seen (ModulePart cores) number clock state is = absurd is
partition_seen (PartitionPart other cores partition) number clock state is =
    let same : number ≡ other = is.0 in
    let clocked : clock.now.cores ≡ cores = is.1 in
    let held : state.now ≡ partition = is.2 in
    cc
partition_seen (ChannelPart other times channel) number clock state is = absurd is

-- the part of a channel
pub channel_seen : (part : Part) (times : Bor (List ℕ)) (channel : Bor Held) → IsSeen part (seen.Channel times channel)
    → part ≡ ChannelPart channel.now.number times.now channel.now.channel
channel_seen (ModulePart cores) times channel is = absurd is
channel_seen (PartitionPart number cores partition) times channel is = absurd is
channel_seen (ChannelPart number others held) times channel is =
    let timed : times.now ≡ others = is.0 in
    let numbered : channel.now.number ≡ number = is.1 in
    let same : channel.now.channel ≡ held = is.2 in
    cc
