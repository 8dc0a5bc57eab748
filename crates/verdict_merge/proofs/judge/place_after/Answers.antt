use Rattle.std.proofs.Common.{◌∙◌, ◌+◌, ap, sym}
use Rattle.verdict_merge.proofs.Splits.{last_place}
use Rattle.verdict_merge.proofs.judge.place_after.Goals as goal

pub returns-in-Some : goal.returns-in-Some
returns-in-Some c =
    ap (λ place. place + 1) c.number.ensures.number ∙ last_place c.args.first c.args.records.now c.in-Some.last.now c.requires (sym c.in-Some.ensures.value)
