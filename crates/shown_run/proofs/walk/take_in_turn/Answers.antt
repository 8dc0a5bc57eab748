-- Each piece takes the record, or is the first to reject it.
use Rattle.std.proofs.Common.{◌≡◌, ◌<◌, ◌∙◌, ℕ, Some, None, arith, length, refl, set, subst, sym}
use Rattle.piece_check.specs.Parts.{Holding}
use Rattle.verdict_merge.specs.Rounds.{IsGoing}
use Rattle.shown_run.specs.Walks.{HasTaken}
use Rattle.shown_run.proofs.Taking.{HaveTaken, all_going, all_run, as_it_was, may_take, none_taken, one_rejects, one_taken}
use Rattle.shown_run.proofs.walk.take_in_turn.Goals as goal

pub loop-number-init : goal.loop-number-init
loop-number-init c = none_taken c.args.config.now c.args.ordered.now c.args.pieces.now

pub take_one-requires : goal.take_one-requires
take_one-requires c =
    let now = c.loop-number.pieces in
    let within : c.loop-number.number < length now = omega (arith, c.loop-number-test.true, c.loop-number.auto.pieces) in
    let may =
    may_take c.args.config.now c.args.ordered.now c.loop-number.number c.args.pieces.now now c.index-pieces-number.result c.requires.going c.loop-number.invariant within
    c.index-pieces-number.is in
    let going = subst (λ (piece : Holding). IsGoing c.args.config.now c.loop-number.number c.args.ordered.now.pos piece) c.index-pieces-number.is may in
    record { core = c.requires.core; windows = c.requires.windows; of_module = going.of_module; holds_before = going.holds_before }

pub returns-in-Some : goal.returns-in-Some
returns-in-Some c =
    let now = c.loop-number.pieces in
    let new = c.take_one.new.piece in
    let within : c.loop-number.number < length now = omega (arith, c.loop-number-test.true, c.loop-number.auto.pieces) in
    let here = as_it_was c.args.config.now c.args.ordered.now c.loop-number.number c.args.pieces.now now c.index-pieces-number.result c.loop-number.invariant within c.index-pieces-number.is in
    let rejects = rw c.in-Some.is at c.in_ok-cause.ensures in
    record {
      going = λ none. cc;
      takes = one_rejects c.args.config.now c.args.ordered.now c.loop-number.number c.in-Some.cause c.args.pieces.now now (set now c.loop-number.number new) new c.requires.going
          c.loop-number.invariant within refl
          (subst (λ (old : Holding). HasTaken c.args.config.now c.args.ordered.now old (Some c.in-Some.cause) new) (sym (here ∙ c.index-pieces-number.is)) rejects);
    }

pub loop-number-preserved : goal.loop-number-preserved
loop-number-preserved c =
    let now = c.loop-number.pieces in
    let new = c.take_one.new.piece in
    let within : c.loop-number.number < length now = omega (arith, c.loop-number-test.true, c.loop-number.auto.pieces) in
    let here = as_it_was c.args.config.now c.args.ordered.now c.loop-number.number c.args.pieces.now now c.index-pieces-number.result c.loop-number.invariant within c.index-pieces-number.is in
    let takes = rw c.in_default.is at c.in_ok-cause.ensures in
    one_taken c.args.config.now c.args.ordered.now c.loop-number.number c.args.pieces.now now (set now c.loop-number.number new) new c.loop-number.invariant within refl
    (subst (λ (old : Holding). HasTaken c.args.config.now c.args.ordered.now old None new) (sym (here ∙ c.index-pieces-number.is)) takes)

pub returns : goal.returns
returns c =
    let old = c.args.pieces.now in
    let new = c.loop-number.pieces in
    let whole : c.loop-number.number ≡ length old = omega (arith, c.loop-number.auto.number-end, c.loop-number-test.false) in
    let have = subst (λ (count : ℕ). HaveTaken c.args.config.now c.args.ordered.now count old new) whole c.loop-number.invariant in
    record {
      going = λ none. all_going c.args.config.now c.args.ordered.now old new c.requires.going have;
      takes = all_run c.args.config.now c.args.ordered.now old new c.requires.going have;
    }
