-- Which pieces a look is at.
use Rattle.std.proofs.Common.{◌≡◌, ◌∙◌, Bool, true, false, ℕ, List, Some, refl, if◌then◌else◌}
use Rattle.std.specs.Borrow.{Bor}
use Rattle.apex_types.specs.declared.record.Ordered.{Ordered}
use Rattle.apex_machine.specs.Configuration.{Configuration}
use Rattle.apex_machine.specs.Pieces.{Part, ChannelPart, ModulePart, PartitionPart, touches}
use Rattle.apex_machine.specs.State.{Partition}
use Rattle.channel.specs.Held.{Held}
use Rattle.scheduling.specs.Clocks.{Clocks}
use Rattle.piece_check.specs.declared.seen.Seen.TheVariants as seen
use Rattle.piece_check.specs.Parts.{holder}
use Rattle.piece_check.specs.Seen.{IsSeen}
use Rattle.run_view.specs.Seen.{ends_no_wait, is_module, looks_at}

-- a part that is seen as the module is the module
pub is_the_module : (part : Part) (clock : Bor Clocks) → IsSeen part (seen.Module clock) → true ≡ is_module part
is_the_module (ModulePart cores) clock is = refl
is_the_module (PartitionPart number cores partition) clock is = absurd is
is_the_module (ChannelPart number times channel) clock is = absurd is

-- a part that is seen as a partition is not the module
pub is_a_partition : (part : Part) (number : ℕ) (clock : Bor Clocks) (state : Bor Partition) → IsSeen part (seen.Partition number clock state) → false ≡ is_module part
is_a_partition (ModulePart cores) number clock state is = absurd is
is_a_partition (PartitionPart other cores partition) number clock state is = refl
is_a_partition (ChannelPart other times channel) number clock state is = refl

-- nor is one that is seen as a channel
pub is_a_channel : (part : Part) (times : Bor (List ℕ)) (channel : Bor Held) → IsSeen part (seen.Channel times channel) → false ≡ is_module part
is_a_channel (ModulePart cores) times channel is = absurd is
is_a_channel (PartitionPart number cores partition) times channel is = refl
is_a_channel (ChannelPart number others held) times channel is = refl

chosen : {A : Type 0} (test : Bool) (one other : A) → test ≡ true → one ≡ (if test then one else other)
chosen true one other is = refl
chosen false one other is = cc

other_chosen : {A : Type 0} (test : Bool) (one other : A) → test ≡ false → other ≡ (if test then one else other)
other_chosen true one other is = cc
other_chosen false one other is = refl

-- a look after a tick that ends no wait is at the module
pub after_quiet : (configuration : Configuration) (part : Part) (ordered : Ordered) (looks : Bool) → ends_no_wait ordered.rec.body ≡ true → looks ≡ is_module part
    → looks ≡ looks_at configuration part (Some ordered)
after_quiet configuration part ordered looks quiet is =
    is ∙ chosen (ends_no_wait ordered.rec.body) (is_module part) (touches configuration (holder part) ordered) quiet

-- a look after another record is at the pieces that it touches
pub after_other : (configuration : Configuration) (part : Part) (ordered : Ordered) (looks : Bool) → ends_no_wait ordered.rec.body ≡ false
    → looks ≡ touches configuration (holder part) ordered → looks ≡ looks_at configuration part (Some ordered)
after_other configuration part ordered looks other is =
    is ∙ other_chosen (ends_no_wait ordered.rec.body) (is_module part) (touches configuration (holder part) ordered) other
