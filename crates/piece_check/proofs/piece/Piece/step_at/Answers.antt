-- The part is then the part after the record, which has as many cores, and is after the next place.
use Rattle.piece_check.specs.Held.{part_of}
use Rattle.piece_check.proofs.Parting.{HasCores_after, HoldsBefore_after}
use Rattle.piece_check.proofs.piece.Piece.step_at.Goals as goal

pub returns-in-Ok-clause-of_module : goal.returns-in-Ok-clause-of_module
returns-in-Ok-clause-of_module c =
    let known = rw (← c.self.view_is) at c.requires.of_module in
    record {
      cores = rw c.in-Ok.ensures.ok.1 (HasCores_after c.args.config.now.cores c.args.config.now (part_of c.self.inside.held) c.args.ordered.now known.cores);
      channel = c.in-Ok.ensures.agrees;
    }

pub returns-in-Ok-clause-holds_before : goal.returns-in-Ok-clause-holds_before
returns-in-Ok-clause-holds_before c =
    let holds_before = rw (← c.self.view_is) at c.requires.holds_before in
    rw c.in-Ok.ensures.ok.1
    (HoldsBefore_after c.args.config.now (part_of c.self.inside.held) c.args.ordered.now holds_before c.in-Ok.ensures.ok.0 c.fits.ensures.period c.fits.ensures.caller)
