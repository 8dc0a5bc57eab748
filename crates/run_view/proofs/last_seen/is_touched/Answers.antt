use Rattle.std.proofs.Common.{◌∙◌, ap, sym}
use Rattle.apex_machine.specs.Pieces.{Piece, touches}
use Rattle.run_view.proofs.LookedAt.{after_other, after_quiet}
use Rattle.run_view.proofs.last_seen.is_touched.Goals as goal

pub returns-then-ends_no_wait : goal.returns-then-ends_no_wait
returns-then-ends_no_wait c =
    after_quiet c.args.config.now c.args.piece.now.part c.args.ordered.now c.is_module.result (sym c.ends_no_wait.ensures ∙ c.if-ends_no_wait.true) c.is_module.ensures

pub returns-else-ends_no_wait : goal.returns-else-ends_no_wait
returns-else-ends_no_wait c =
    after_other c.args.config.now c.args.piece.now.part c.args.ordered.now c.is_touched.result (sym c.ends_no_wait.ensures ∙ c.if-ends_no_wait.false)
    (c.is_touched.ensures ∙ ap (λ (one : Piece). touches c.args.config.now one c.args.ordered.now) c.subject.ensures)
