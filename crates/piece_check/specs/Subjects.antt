-- Subjects of pieces, and processes that may be named.
use Rattle.std.specs.Prelude.{Option, Some, None, Bool, false}
use Rattle.apex_types.specs.declared.record.Who.{Who}
use Rattle.apex_machine.specs.Pieces.{OfChannel, OfPartition, Piece}
use Rattle.apex_machine.specs.Pieces as pieces
use Rattle.apex_machine.specs.State.{is_same}
use Rattle.piece_check.specs.declared.subject.Subject.{Subject}
use Rattle.piece_check.specs.declared.subject.Subject.TheVariants.{Channel, Module, Partition}

-- the piece of the definitions
abbrev pub piece_of : Subject → Piece
piece_of Module = pieces.Module
piece_of (Partition number) = OfPartition number
piece_of (Channel number) = OfChannel number

-- whether there is a process, and it is this one
abbrev pub is_the : Who → Option Who → Bool
is_the who None = false
is_the who (Some other) = is_same who other
