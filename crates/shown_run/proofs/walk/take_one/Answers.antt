-- A piece that a record touches takes it or rejects it; any other piece is as it was.
use Rattle.std.proofs.Common.{◌∙◌, Some, None, ap, subst, sym}
use Rattle.apex_machine.specs.Pieces.{Piece, touches}
use Rattle.piece_check.specs.Parts.{Holding, holder}
use Rattle.shown_run.specs.Walks.{HasTaken}
use Rattle.shown_run.proofs.Taking.{passed, rejected, stepped}
use Rattle.shown_run.proofs.walk.take_one.Goals as goal

pub returns-then-not-is_touched : goal.returns-then-not-is_touched
returns-then-not-is_touched c =
    passed c.args.config.now c.args.ordered.now c.args.piece.now
    (ap (λ (one : Piece). touches c.args.config.now one c.args.ordered.now) (sym c.subject.ensures) ∙ sym c.is_touched.ensures ∙ c.if-not-is_touched.true)
    c.requires.of_module c.requires.holds_before

pub returns-then-pass_by : goal.returns-then-pass_by
returns-then-pass_by c =
    let touched = ap (λ (one : Piece). touches c.args.config.now one c.args.ordered.now) (sym c.subject.ensures) ∙ sym c.is_touched.ensures ∙ c.if-not-is_touched.false in
    let did = c.if-pass_by.true in
    stepped c.args.config.now c.args.ordered.now c.args.piece.now c.pass_by.new.self touched (c.pass_by.ensures.passed did c.args.config.now) c.pass_by.ensures.whose
    (c.pass_by.ensures.of_module c.args.config.now c.requires.of_module) (c.pass_by.ensures.holds_before did)

pub returns-in-Ok : goal.returns-in-Ok
returns-in-Ok c =
    let config = c.args.config.now in
    let ordered = c.args.ordered.now in
    let same = c.pass_by.ensures.unchanged c.if-pass_by.false in
    let touched = ap (λ (one : Piece). touches config one ordered) (sym c.subject.ensures) ∙ sym c.is_touched.ensures ∙ c.if-not-is_touched.false in
    subst (λ (old : Holding). HasTaken config ordered old None c.step_at.new.self) same
    (stepped config ordered c.pass_by.new.self c.step_at.new.self (ap (λ (old : Holding). touches config (holder old.part) ordered) same ∙ touched)
    c.in-Ok.ensures.ok c.in-Ok.ensures.whose c.in-Ok.ensures.of_module c.in-Ok.ensures.holds_before)

pub returns-in-Err-Rejected : goal.returns-in-Err-Rejected
returns-in-Err-Rejected c =
    let config = c.args.config.now in
    let ordered = c.args.ordered.now in
    let same = c.pass_by.ensures.unchanged c.if-pass_by.false in
    let touched = ap (λ (one : Piece). touches config one ordered) (sym c.subject.ensures) ∙ sym c.is_touched.ensures ∙ c.if-not-is_touched.false in
    let refused = rw c.in-Err-Rejected.field-0-is at c.in-Err-Rejected.ensures.refused in
    subst (λ (old : Holding). HasTaken config ordered old (Some c.in-Err-Rejected.cause) c.step_at.new.self) same
    (rejected config ordered c.in-Err-Rejected.cause c.pass_by.new.self c.step_at.new.self (ap (λ (old : Holding). touches config (holder old.part) ordered) same ∙ touched)
    refused.1 c.in-Err-Rejected.ensures.unchanged)
