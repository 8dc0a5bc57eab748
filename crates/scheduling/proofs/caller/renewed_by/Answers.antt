use Rattle.std.proofs.Common.{sym, ◌∙◌}
use Rattle.scheduling.proofs.Periodic.{renewed_not, renewed_there}
use Rattle.scheduling.proofs.caller.renewed_by.Goals as goal

pub returns-then-renews_with : goal.returns-then-renews_with
returns-then-renews_with c = λ old. renewed_there _ c.args.place old (sym c.renews_with.ensures ∙ c.if-renews_with.true)

pub returns-else-renews_with : goal.returns-else-renews_with
returns-else-renews_with c = λ old. renewed_not _ c.args.place old (sym c.renews_with.ensures ∙ c.if-renews_with.false)
