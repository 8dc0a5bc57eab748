use Rattle.std.proofs.Common.{◌≡◌, ◌≢◌, ◌≤◌, ◌<◌, ◌+◌, ◌∙◌, ◌++◌, ◌∷◌, [], List, suc, ap, arith, drop, get_or, length, set, sym, take}
use Rattle.std.proofs.lemmas.List.{drop_all, take_all}
use Rattle.user_rules.specs.declared.memory.Cell.{Cell}
use Rattle.user_rules.specs.Meets.{with_values}
use Rattle.user_rules.specs.Memories.{mark_after, mark_at, put}
use Rattle.user_rules.proofs.Keeping.{mark_found, mark_missing, mark_passed, put_found, put_passed}
use Rattle.user_rules.proofs.track.put_next.Goals as goal

pub returns-then-cell-holder : goal.returns-then-cell-holder
returns-then-cell-holder c =
    let cells = c.cells.cells.items in
    let holder = c.args.holder in
    let valued = with_values c.args.view.now c.args.values.now in
    let cell = c.index-cell.result.now in
    let within : c.cells.index < length cells = omega (arith, c.cells-test.true, c.len-count.ensures, ap length c.cells.invariant.0) in
    let is = sym (ap (λ cell. cell.holder) c.index-cell.ensures) ∙ c.if-cell-holder.true in
    let kept = ap (λ cell. cell.mark) c.index-cell.ensures ∙ sym (mark_found cells c.cells.index holder cell within is) ∙ c.cells.invariant.1 in
    ap (λ mark. set cells c.cells.index (record { holder = holder; mark = mark })) (c.after-mark.ensures ∙ ap (λ mark. mark_after c.args.keeps.now mark valued) kept)
    ∙ sym (put_found cells c.cells.index holder (mark_after c.args.keeps.now (mark_at cells holder) valued) cell within is) ∙ c.cells.invariant.2
    ∙ ap (λ list. put list holder (mark_after c.args.keeps.now (mark_at list holder) valued)) c.cells.invariant.0

pub cells-preserved : goal.cells-preserved
cells-preserved c =
    let cells = c.cells.cells.items in
    let holder = c.args.holder in
    let after = mark_after c.args.keeps.now (mark_at cells holder) (with_values c.args.view.now c.args.values.now) in
    let cell = c.index-cell.result.now in
    let within : c.cells.index < length cells = omega (arith, c.cells-test.true, c.len-count.ensures, ap length c.cells.invariant.0) in
    let next : suc c.cells.index ≡ c.cells.index + 1 = omega arith in
    let apart : (get_or cells c.cells.index cell).holder ≢ holder = λ is. c.if-cell-holder.false (ap (λ cell. cell.holder) c.index-cell.ensures ∙ is) in (
      c.cells.invariant.0,
      ap (λ count. mark_at (drop count cells) holder) (sym next) ∙ mark_passed cells c.cells.index holder cell within apart ∙ c.cells.invariant.1,
      ap (λ count. take count cells ++ put (drop count cells) holder after) (sym next)
          ∙ put_passed cells c.cells.index holder after cell within apart ∙ c.cells.invariant.2,
    )

pub returns : goal.returns
returns c =
    let cells = c.cells.cells.items in
    let holder = c.args.holder in
    let valued = with_values c.args.view.now c.args.values.now in
    let after = mark_after c.args.keeps.now (mark_at cells holder) valued in
    let past : length cells ≤ c.cells.index = omega (arith, c.cells-test.false, c.len-count.ensures, ap length c.cells.invariant.0) in
    let none = sym (mark_missing cells c.cells.index holder past) ∙ c.cells.invariant.1 in
    c.in_ok-push.ensures.items
    ∙ ap (λ mark. cells ++ record { holder = holder; mark = mark } ∷ []) (c.after-mark-2.ensures ∙ ap (λ mark. mark_after c.args.keeps.now mark valued) none)
    ∙ sym (ap (λ list. list ++ put (drop c.cells.index cells) holder after) (take_all c.cells.index cells past)
    ∙ ap (λ list. cells ++ put list holder after) (drop_all c.cells.index cells past))
    ∙ c.cells.invariant.2 ∙ ap (λ list. put list holder (mark_after c.args.keeps.now (mark_at list holder) valued)) c.cells.invariant.0
