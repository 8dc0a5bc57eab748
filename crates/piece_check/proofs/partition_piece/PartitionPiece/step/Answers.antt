-- A tick ends waits, and its core's time goes on.
use Rattle.std.proofs.Common.{refl}
use Rattle.piece_check.proofs.partition_piece.PartitionPiece.step.Goals as goal

pub returns-in-Ok-judge_tick-clause-ok : goal.returns-in-Ok-judge_tick-clause-ok
returns-in-Ok-judge_tick-clause-ok c =
    rw c.in-Tick.is (c.in-Ok-judge_tick.ensures, rw (c.tick.ensures c.args.config.now c.args.self.now.clock.cores c.args.ordered.now.core, c.advance.ensures) refl)
