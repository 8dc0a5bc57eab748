use Rattle.std.proofs.Common.{◌+◌, ◌-◌, drop, length, refl, take, arith}
use Rattle.std.proofs.lemmas.List.{take_rest}
use Rattle.csv_rows.proofs.Numbers.{numbered_row}
use Rattle.csv_rows.proofs.numbered.numbered_at.Goals as goal

pub returns : goal.returns
returns c =
    let first = c.in_ok-first.first in
    let line = c.args.line.now in
    let text = c.args.text.now in
    let start = first.digits + 1 in
    numbered_row text (take (length text - start) (drop start text)) line first.number c.args.number first.digits (first.digits + length line + 2)
    c.in_ok-first.ensures (omega (arith, c.if-first-number.false)) (c.if-not-is_at.ensures.within refl) (c.if-not-is_at.ensures.is refl)
    (take_rest text start)
    (c.if-not-begins_with.ensures refl) (c.if-not-is_at-2.ensures.within refl) (c.if-not-is_at-2.ensures.is refl) c.requires.plain refl
