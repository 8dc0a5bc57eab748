-- A record that is passed by is a step of the piece. The piece stays a piece of its module, and holds before the next place.
use Rattle.std.proofs.Common.{◌∙◌, sym, ap}
use Rattle.piece_check.specs.Held.{part_of, settings_of}
use Rattle.piece_check.specs.Parts.{holder}
use Rattle.piece_check.proofs.Quiet.{passed_holds_before, stays_of_module}
use Rattle.piece_check.proofs.piece.Piece.pass_by.Goals as goal

pub returns-clause-of_module : goal.returns-clause-of_module
returns-clause-of_module c = λ configuration of_module.
    let known = rw (← c.self.view_is) at of_module in
    let stays = stays_of_module configuration c.pass_by.result (part_of c.self.inside.held) (part_of c.pass_by.new.self) (settings_of c.self.inside.held) (settings_of c.pass_by.new.self) c.args.ordered.now
    known.cores known.channel c.pass_by.ensures.settings (λ passed. c.pass_by.ensures.passed passed configuration) (λ left. ap part_of (c.pass_by.ensures.unchanged left)) in
    record { cores = stays.0; channel = stays.1 }

pub returns-clause-whose : goal.returns-clause-whose
returns-clause-whose c = c.pass_by.ensures.whose ∙ ap (λ holding. holder holding.part) c.self.view_is

pub returns-clause-holds_before : goal.returns-clause-holds_before
returns-clause-holds_before c = λ passed.
    let before = rw (← c.self.view_is) at c.requires.holds_before in
    passed_holds_before (part_of c.self.inside.held) (part_of c.pass_by.new.self) c.args.ordered.now (sym c.pass_by.ensures.value ∙ passed) before (c.pass_by.ensures.passed passed)
