use Rattle.std.proofs.Common.{rules, ◌≡◌, Some}
use Rattle.apex_machine.specs.Views.{view_in}
use Rattle.user_rules.specs.Rules.{relations_of}
use Rattle.verdict_merge.proofs.Breaking.{none_broken, one_breach}
use Rattle.verdict_merge.proofs.outcome.breach_of.Goals as goal

pub returns : goal.returns
returns g c =
    let view = c.in_ok-view.view in
    let is : view_in c.args.piece.now.part c.args.ordered.now ≡ Some view = search rules in
    one_breach (relations_of c.args.rules.now) (view_in c.args.piece.now.part c.args.ordered.now) c.args.index c.in_ok-rule.rule view is c.in_ok-rule.ensures

pub returns-in_err-rule : goal.returns-in_err-rule
returns-in_err-rule g c =
    let view = c.in_ok-view.view in
    let is : view_in c.args.piece.now.part c.args.ordered.now ≡ Some view = search rules in
    rw c.from_residual-in_err-rule.ensures (none_broken (relations_of c.args.rules.now) (view_in c.args.piece.now.part c.args.ordered.now) c.args.index view is c.in_err-rule.ensures)
