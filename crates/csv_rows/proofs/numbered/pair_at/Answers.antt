use Rattle.std.proofs.Common.{◌+◌, ◌-◌, drop, length, refl, take}
use Rattle.std.proofs.lemmas.List.{take_rest}
use Rattle.csv_rows.proofs.Numbers.{pair_row}
use Rattle.csv_rows.proofs.numbered.pair_at.Goals as goal

pub returns : goal.returns
returns c =
    let first = c.in_ok-first.first in
    let second = c.in_ok-second.second in
    let text = c.args.text.now in
    let start = first.digits + 1 in
    pair_row text (take (length text - start) (drop start text)) first.number second.number first.digits second.digits (first.digits + second.digits + 2)
    c.in_ok-first.ensures (c.if-not-is_at.ensures.within refl) (c.if-not-is_at.ensures.is refl) (take_rest text start) c.in_ok-second.ensures (c.if-not-is_at-2.ensures.within refl)
    (c.if-not-is_at-2.ensures.is refl) refl
