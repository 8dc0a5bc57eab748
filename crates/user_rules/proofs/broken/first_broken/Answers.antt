use Rattle.std.proofs.Common.{map, sym, subst, ◌<◌}
use Rattle.std.proofs.lemmas.List.{length-map}
use Rattle.user_rules.specs.FirstBroken.{IsFirstAmong}
use Rattle.user_rules.specs.Meets.{alone}
use Rattle.user_rules.specs.Rules.{relations_of}
use Rattle.user_rules.proofs.FirstBroken.{alone_here, not_all_met}
use Rattle.user_rules.proofs.broken.first_broken.Goals as goal

pub returns-in_err-view : goal.returns-in_err-view
returns-in_err-view g c =
    subst (IsFirstAmong (relations_of c.args.rules.now) (map alone c.args.views.now)) (sym c.from_residual.ensures) (c.in_err-view.ensures)

pub returns-in_err-rule : goal.returns-in_err-rule
returns-in_err-rule g c =
    absurd (not_all_met (relations_of c.args.rules.now) c.args.views.now c.in_ok-view.view _ c.in_ok-view.ensures.2 (c.in_err-rule.ensures))

pub returns : goal.returns
returns g c =
    let first = c.in_ok-view.ensures in
    alone_here (relations_of c.args.rules.now) c.args.views.now c.in_ok-view.view c.in_ok-rule.rule _
    (subst (λ count. c.in_ok-view.view < count) (length-map c.args.views.now alone) first.0) first.1 (c.in_ok-rule.ensures)
