use Rattle.std.proofs.Common.{◌∙◌}
use Rattle.user_rules.specs.Meets.{alone}
use Rattle.user_rules.specs.Rules.{relations_of}
use Rattle.user_rules.proofs.FirstBroken.{breaks_by}
use Rattle.user_rules.proofs.broken.breaks_one.Goals as goal

pub returns : goal.returns
returns g c = c.is_some.ensures ∙ breaks_by (relations_of c.args.rules.now) (alone c.args.view.now) c.first_rule_broken.result c.first_rule_broken.ensures
