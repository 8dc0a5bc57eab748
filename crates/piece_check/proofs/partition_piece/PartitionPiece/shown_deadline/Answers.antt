-- The time is that of the record's core.
use Rattle.std.proofs.Common.{rules}
use Rattle.piece_check.proofs.partition_piece.PartitionPiece.shown_deadline.Goals as goal

pub returns-in-Call : goal.returns-in-Call
returns-in-Call c =
    let shows = rw c.now-now.ensures at c.shown_missed.ensures in
    search (rules, shows)
