-- What a record gives by a piece is what it gives by what is seen of the piece.
use Rattle.std.proofs.Common.{◌≡◌, ◌∙◌, ℕ, List, [], ◌++◌, refl, ap}
use Rattle.std.specs.Borrow.{Bor}
use Rattle.apex_types.specs.declared.record.Body.{Body}
use Rattle.apex_types.specs.declared.record.Body.TheVariants.{Call}
use Rattle.apex_types.specs.declared.record.Call.{Call as CallRecord}
use Rattle.apex_types.specs.declared.record.Ordered.{Ordered}
use Rattle.apex_machine.specs.Configuration.{Configuration}
use Rattle.apex_machine.specs.Pieces.{ChannelPart, ModulePart, Part, PartitionPart}
use Rattle.apex_machine.specs.State.{Partition}
use Rattle.channel.specs.Held.{Held}
use Rattle.piece_check.specs.declared.seen.Seen.TheVariants as seen
use Rattle.piece_check.specs.Seen.{IsSeen}
use Rattle.scheduling.specs.Clocks.{Clocks}
use Rattle.run_numbers.specs.Channels.{used, used_after}
use Rattle.run_numbers.specs.Cores.{observed_of_cores}
use Rattle.run_numbers.specs.Partitions.{observed_of_partition}
use Rattle.run_numbers.specs.declared.observation.Observation.{Observation}
use Rattle.run_numbers.specs.Run.{left_by, left_in_partition, observed_of}
use Rattle.run_numbers.proofs.Added.{none_added}

-- before the record

pub before_module : (configuration : Configuration) (part : Part) (clock : Bor Clocks) (ordered : Ordered) → IsSeen part (seen.Module clock)
    → observed_of_cores configuration clock.now.cores ordered.core ordered.rec.body ≡ observed_of configuration part ordered
before_module configuration (ModulePart cores) clock ordered is = ap (λ one. observed_of_cores configuration one ordered.core ordered.rec.body) is
before_module configuration (PartitionPart number cores partition) clock ordered is = absurd is
before_module configuration (ChannelPart number times channel) clock ordered is = absurd is

pub before_partition : (configuration : Configuration) (part : Part) (number : ℕ) (clock : Bor Clocks) (state : Bor Partition) (ordered : Ordered) → IsSeen part (seen.Partition number clock state)
    → observed_of_partition number clock.now.cores ordered.core state.now ordered.rec.body ≡ observed_of configuration part ordered
before_partition configuration (ModulePart cores) number clock state ordered is = absurd is
before_partition configuration (PartitionPart other cores partition) number clock state ordered is =
    ap (λ one. observed_of_partition one clock.now.cores ordered.core state.now ordered.rec.body) is.0
    ∙ ap (λ one. observed_of_partition other one ordered.core state.now ordered.rec.body) is.1
    ∙ ap (λ one. observed_of_partition other cores ordered.core one ordered.rec.body) is.2
before_partition configuration (ChannelPart other times channel) number clock state ordered is = absurd is

pub before_channel : (configuration : Configuration) (part : Part) (times : Bor (List ℕ)) (held : Bor Held) (ordered : Ordered) → IsSeen part (seen.Channel times held)
    → used held.now.number times.now held.now.channel ordered.core ordered.rec.body ≡ observed_of configuration part ordered
before_channel configuration (ModulePart cores) times held ordered is = absurd is
before_channel configuration (PartitionPart number cores partition) times held ordered is = absurd is
before_channel configuration (ChannelPart number known channel) times held ordered is =
    ap (λ one. used one times.now held.now.channel ordered.core ordered.rec.body) is.1
    ∙ ap (λ one. used number one held.now.channel ordered.core ordered.rec.body) is.0
    ∙ ap (λ one. used number known one ordered.core ordered.rec.body) is.2

-- after the record

pub after_module : (part : Part) (clock : Bor Clocks) (ordered : Ordered) → IsSeen part (seen.Module clock) → [] ≡ left_by part ordered
after_module (ModulePart cores) clock ordered is = refl
after_module (PartitionPart number cores partition) clock ordered is = absurd is
after_module (ChannelPart number times channel) clock ordered is = absurd is

pub after_partition : (part : Part) (number : ℕ) (clock : Bor Clocks) (state : Bor Partition) (ordered : Ordered) → IsSeen part (seen.Partition number clock state)
    → left_in_partition number state.now ordered.rec.body ≡ left_by part ordered
after_partition (ModulePart cores) number clock state ordered is = absurd is
after_partition (PartitionPart other cores partition) number clock state ordered is =
    ap (λ one. left_in_partition one state.now ordered.rec.body) is.0 ∙ ap (λ one. left_in_partition other one ordered.rec.body) is.2
after_partition (ChannelPart other times channel) number clock state ordered is = absurd is

pub after_channel : (part : Part) (times : Bor (List ℕ)) (held : Bor Held) (ordered : Ordered) → IsSeen part (seen.Channel times held)
    → used_after held.now.number held.now.channel ordered.rec.body ≡ left_by part ordered
after_channel (ModulePart cores) times held ordered is = absurd is
after_channel (PartitionPart number cores partition) times held ordered is = absurd is
after_channel (ChannelPart number known channel) times held ordered is =
    ap (λ one. used_after one held.now.channel ordered.rec.body) is.1 ∙ ap (λ one. used_after number one ordered.rec.body) is.2

-- a record that is no call leaves nothing in a partition
pub not_left : (number : ℕ) (partition : Partition) (body : Body) (old : List Observation) → ((call : CallRecord) → body ≡ Call call → ⊥)
    → old ≡ old ++ left_in_partition number partition body
not_left number partition (Call call) old none = absurd (none call refl)
not_left number partition body old none = none_added old
