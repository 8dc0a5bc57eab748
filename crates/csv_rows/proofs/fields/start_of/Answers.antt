use Rattle.std.proofs.Common.{◌≡◌, ◌<◌, ◌+◌, ◌-◌, ◌∙◌, suc, length, get_or, sym, ap, arith}
use Rattle.std.proofs.lemmas.List.{get_or_read}
use Rattle.csv_rows.specs.Pieces.{start_at}
use Rattle.csv_rows.proofs.Pieces.{begins_after, piece_within}
use Rattle.csv_rows.proofs.fields.start_of.Goals as goal

pub overflow_add-result : goal.overflow_add-result
overflow_add-result c =
    let ends = c.args.ends.now.items in
    let before = c.args.place - 1 in
    let within : before < length ends = omega (arith, c.requires.place, c.if-place-eq0.false) in
    let at : c.index.result.now ≡ get_or ends before 0 = get_or_read ends before c.index.result.now within c.index.ensures 0 in
    omega (arith, at, (piece_within 0 ends (length c.args.line.now) before c.requires.ends within).1)

pub returns-else-place-eq0 : goal.returns-else-place-eq0
returns-else-place-eq0 c =
    let ends = c.args.ends.now.items in
    let before = c.args.place - 1 in
    let within : before < length ends = omega (arith, c.requires.place, c.if-place-eq0.false) in
    let at : c.index.result.now ≡ get_or ends before 0 = get_or_read ends before c.index.result.now within c.index.ensures 0 in
    let next : suc before ≡ c.args.place = omega (arith, c.if-place-eq0.false) in
    ap (λ n. n + 1) at ∙ sym (begins_after 0 ends before within) ∙ ap (start_at 0 ends) next
