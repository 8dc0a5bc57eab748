-- A piece starts with its part of the cold state, which knows the cores and is after place 0.
use Rattle.piece_check.specs.Parts.{piece_at}
use Rattle.piece_check.proofs.Parting.{cold_holds_before, cold_has_cores}
use Rattle.piece_check.proofs.piece.Piece.start.Goals as goal

pub returns-clause-of_module : goal.returns-clause-of_module
returns-clause-of_module c =
    let config = c.args.config.now in
    record { cores = rw c.in_ok-held.ensures.part (cold_has_cores config (piece_at config c.args.piece)); channel = c.in_ok-held.ensures.agrees }

pub returns-clause-holds_before : goal.returns-clause-holds_before
returns-clause-holds_before c = rw c.in_ok-held.ensures.part (cold_holds_before c.args.config.now (piece_at c.args.config.now c.args.piece))
