-- The times of the cores are those of a recording.
use Rattle.piece_check.proofs.Parting.{TimesFit_before}
use Rattle.piece_check.proofs.partition_piece.PartitionPiece.note.Goals as goal

pub note-requires-clause-times : goal.note-requires-clause-times
note-requires-clause-times c =
    rw c.states.ensures (TimesFit_before c.args.ordered.now.pos c.args.self.now.clock.cores c.requires.place c.requires.holds_before.times)
