use Rattle.std.proofs.Common.{◌≡◌, ◌<◌, ◌∙◌, ◌++◌, ◌∷◌, [], length, get_or, sym, ap, subst, arith, append_assoc}
use Rattle.std.proofs.lemmas.List.{length-append}
use Rattle.std.proofs.Math.Seq.{get_or-append_seam}
use Rattle.user_rules.specs.Rules.{relations_of}
use Rattle.verdict_merge.specs.Rounds.{IsGoing, IsPieceJudged, holding_at}
use Rattle.verdict_merge.proofs.Holdings.{holding_at-get}
use Rattle.verdict_merge.proofs.Working.{over_more}
use Rattle.verdict_merge.proofs.judged.judge_in_turn.Goals as goal

pub judge_piece-requires-clause-going : goal.judge_piece-requires-clause-going
judge_piece-requires-clause-going g c =
    let config = c.args.lent.now.config.now in
    let first = c.args.lent.now.first in
    let old = c.args.pieces.items in
    let number = length c.pieces.yielded in
    let piece = c.in-Some.piece in
    let rest = c.next.new.self.rest.items in
    let all : c.pieces.yielded ++ piece ∷ rest ≡ old = subst (λ left. c.pieces.yielded ++ left ≡ old) c.in-Some.ensures.steps.0 c.pieces.invariant.0 in
    let within : number < length old = omega (arith, ap length all, length-append c.pieces.yielded (piece ∷ rest)) in
    let here : holding_at old number ≡ piece = holding_at-get old number piece within ∙ ap (λ items. get_or items number piece) (sym all) ∙ get_or-append_seam c.pieces.yielded piece rest piece in
    subst (λ n. IsGoing config n first piece) (sym (c.len-in-pieces.ensures ∙ c.pieces.invariant.1))
    (subst (IsGoing config number first) here (c.requires.going.each number (omega (arith, within, c.requires.going.whole))))

pub pieces-preserved : goal.pieces-preserved
pieces-preserved g c =
    let config = c.args.lent.now.config.now in
    let first = c.args.lent.now.first in
    let records = c.args.lent.now.records.now in
    let relations = relations_of c.args.rules.now in
    let old = c.args.pieces.items in
    let number = length c.pieces.yielded in
    let piece = c.in-Some.piece in
    let rest = c.next.new.self.rest.items in
    let one = c.in-Ok-judge_piece.one in
    let all : c.pieces.yielded ++ piece ∷ rest ≡ old = subst (λ left. c.pieces.yielded ++ left ≡ old) c.in-Some.ensures.steps.0 c.pieces.invariant.0 in
    let within : number < length old = omega (arith, ap length all, length-append c.pieces.yielded (piece ∷ rest)) in
    let here : holding_at old number ≡ piece = holding_at-get old number piece within ∙ ap (λ items. get_or items number piece) (sym all) ∙ get_or-append_seam c.pieces.yielded piece rest piece in
    let keeps = c.args.lent.now.keeps in
    let over : IsPieceJudged config number first records relations keeps (holding_at old number) one =
    subst (λ holding. IsPieceJudged config number first records relations keeps holding one) (sym here)
    (subst (λ n. IsPieceJudged config n first records relations keeps piece one) (c.len-in-pieces.ensures ∙ c.pieces.invariant.1) c.in-Ok-judge_piece.ensures) in
    let counted : length c.pieces.judged.items ≡ number = omega (arith, c.pieces.judged.ok, c.pieces.invariant.1) in
    let more = over_more config first records relations keeps old c.pieces.judged.items one number counted c.pieces.invariant.3 over in (
      append_assoc c.pieces.yielded (piece ∷ []) rest ∙ all,
      omega (arith, c.push_reserved.ensures.len, c.pieces.invariant.1, length-append c.pieces.yielded (piece ∷ [])),
      omega (arith, c.push_reserved.ensures.capacity, c.pieces.invariant.2),
      (λ other less judged is. more other (omega (arith, less, length-append c.pieces.yielded (piece ∷ []))) judged (is ∙ ap (λ items. get_or items other judged) c.push_reserved.ensures.items)),
    )

pub returns : goal.returns
returns g c =
    let yielded = c.pieces.yielded in
    let rest = c.pieces.piece-iterator.rest in
    let all : length yielded ≡ length c.args.pieces.items = omega (arith, ap length c.pieces.invariant.0, length-append yielded rest.items, c.in-None.ensures.steps.0, rest.ok) in
    record {
      whole = omega (arith, c.pieces.judged.ok, c.pieces.invariant.1, all);
      each = λ number less one is. c.pieces.invariant.3 number (omega (arith, less, all)) one is;
    }
