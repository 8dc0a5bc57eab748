-- The pieces in turn, up to the first that gives a view.
use Rattle.std.proofs.Common.{below_more, ◌≡◌, ◌<◌, ◌∙◌, None, ap, arith, length, sym}
use Rattle.apex_machine.specs.Views.{view_in}
use Rattle.piece_check.specs.Parts.{Holding}
use Rattle.verdict_merge.specs.Rounds.{parts_in}
use Rattle.shown_run.proofs.Taking.{at_number}
use Rattle.shown_run.proofs.run.view_at.Goals as goal

pub returns-in-Some-clause-given : goal.returns-in-Some-clause-given
returns-in-Some-clause-given c =
    let within : c.pieces.number < length c.args.pieces.now = omega (arith, c.pieces-test.true) in
    let here = at_number c.args.pieces.now c.pieces.number c.index-pieces-number.result within c.index-pieces-number.is in
    (c.pieces.number, within, ap (λ (piece : Holding). view_in piece.part c.args.ordered.now) here ∙ sym c.view.ensures ∙ c.in-Some.is)

pub pieces-preserved : goal.pieces-preserved
pieces-preserved c =
    let within : c.pieces.number < length c.args.pieces.now = omega (arith, c.pieces-test.true) in
    let here = at_number c.args.pieces.now c.pieces.number c.index-pieces-number.result within c.index-pieces-number.is in
    below_more (λ other. view_in (parts_in c.args.pieces.now other) c.args.ordered.now ≡ None) c.pieces.number c.pieces.invariant
    (ap (λ (piece : Holding). view_in piece.part c.args.ordered.now) here ∙ sym c.view.ensures ∙ c.in_default.is)
