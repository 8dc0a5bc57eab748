use Rattle.std.proofs.Common.{◌≡◌, ◌<◌, ◌+◌, ◌∙◌, List, Option, drop, sym, subst, arith}
use Rattle.csv_rows.specs.Stream.{Fields}
use Rattle.csv_rows.specs.Text.{IsFrontOf, KeepsRows, rows_left, unread_of}
use Rattle.csv_rows.proofs.Texts.{first_skips, keeps_rows_through, rows_stay}
use Rattle.csv_rows.proofs.ahead.Ahead.take_next.Goals as goal

pub loop-preserved : goal.loop-preserved
loop-preserved g c =
    let known = g.R.TextSource.remaining in
    let text = c.front.new.self in
    let front = rw c.in-Line.is at c.in_ok-line.ensures.front in
    let none : c.in-Line.line.length ≡ 0 = omega (arith, c.if-line-gt0.false) in
    let skipped = first_skips text.bytes.items text.at c.in-Line.line.length c.in-Line.line.taken (known text.source) front.0 none in
    let P : Option (List Fields) → Type 0 = λ rows. KeepsRows (rows_left (unread_of known c.loop.self)) rows in (
      keeps_rows_through _ _ _ c.loop.invariant.0 (subst P (sym skipped) (rows_stay _ _ c.in_ok-line.ensures.keeps)),
      c.front.ensures.begun ∙ c.loop.invariant.1,
      c.in_ok-line.ensures.reports ∙ c.loop.invariant.2,
    )
