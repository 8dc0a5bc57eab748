-- The part that a piece holds.
use Rattle.std.specs.Prelude.{Option, Some, None}
use Rattle.apex_machine.specs.Pieces.{Part, ChannelPart, ModulePart, PartitionPart}
use Rattle.channel.specs.Held.{Settings}
use Rattle.piece_check.specs.declared.channel_piece.ChannelPiece.{ChannelPiece}
use Rattle.piece_check.specs.declared.held.Held.{Held}
use Rattle.piece_check.specs.declared.held.Held.TheVariants.{Channel, Module, Partition}
use Rattle.piece_check.specs.declared.partition_piece.PartitionPiece.{PartitionPiece}

-- the part that the piece of a partition holds
abbrev pub partition_part : PartitionPiece → Part
partition_part piece = PartitionPart piece.number piece.clock.cores piece.state

-- the part that the piece of a channel holds
abbrev pub channel_part : ChannelPiece → Part
channel_part piece = ChannelPart piece.channel.number piece.times piece.channel.channel

-- the part that a piece holds
abbrev pub part_of : Held → Part
part_of (Module piece) = ModulePart piece.clock.cores
part_of (Partition piece) = partition_part piece
part_of (Channel piece) = channel_part piece

-- the settings of the piece's channel, if the piece is a channel's
abbrev pub settings_of : Held → Option Settings
settings_of (Module piece) = None
settings_of (Partition piece) = None
settings_of (Channel piece) = Some piece.channel.settings
