-- What the record gives by one piece more each time.
use Rattle.std.proofs.Common.{◌++◌, ◌∙◌, ap, arith, sym}
use Rattle.piece_check.specs.Parts.{Holding}
use Rattle.run_numbers.specs.Run.{observed_of}
use Rattle.run_numbers.proofs.Added.{all_of, none_added, one_more}
use Rattle.run_numbers.proofs.Left.{none_before}
use Rattle.run_numbers.proofs.numbers.observe_met.Goals as goal

pub returns-then-is_return : goal.returns-then-is_return
returns-then-is_return c =
    let is = sym c.is_return.ensures ∙ c.if-is_return.true in
    none_added c.args.observed.now.items
    ∙ ap (λ list. c.args.observed.now.items ++ list) (sym (none_before c.args.config.now c.args.ordered.now is c.args.pieces.now))

pub loop-piece-init : goal.loop-piece-init
loop-piece-init c = none_added c.args.observed.now.items

pub loop-piece-preserved : goal.loop-piece-preserved
loop-piece-preserved c =
    one_more (λ (holding : Holding). observed_of c.args.config.now holding.part c.args.ordered.now) c.args.pieces.now c.loop-piece.piece-index c.piece-item.result c.args.observed.now.items
    c.loop-piece.observed.items _ c.loop-piece-test.true c.piece-item.is c.loop-piece.invariant c.in_ok-observe_before.ensures

pub returns : goal.returns
returns c =
    all_of (λ (holding : Holding). observed_of c.args.config.now holding.part c.args.ordered.now) c.args.pieces.now c.loop-piece.piece-index c.args.observed.now.items c.loop-piece.observed.items
    (omega arith) c.loop-piece.invariant
