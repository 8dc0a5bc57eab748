-- What callers see of a part.
use Rattle.std.specs.Prelude.{◌≡◌}
use Rattle.apex_machine.specs.Pieces.{Part, ModulePart, PartitionPart, ChannelPart}
use Rattle.piece_check.specs.declared.seen.Seen.{Seen}
use Rattle.piece_check.specs.declared.seen.Seen.TheVariants.{Channel, Module, Partition}

-- what is seen is the part: of the module the cores; of a partition its number, the cores and its state; of a channel the times and the
-- channel
abbrev pub IsSeen : Part → Seen → Type 0
IsSeen (ModulePart cores) (Module clock) = clock.now.cores ≡ cores
IsSeen (PartitionPart number cores partition) (Partition shown clock state) = (shown ≡ number) × (clock.now.cores ≡ cores) × (state.now ≡ partition)
IsSeen (ChannelPart number times channel) (Channel shown held) = (shown.now ≡ times) × (held.now.number ≡ number) × (held.now.channel ≡ channel)
IsSeen part _ = ⊥
