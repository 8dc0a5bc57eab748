use Rattle.std.proofs.Common.{◌∙◌, sym}
use Rattle.user_rules.specs.Meets.{with_values}
use Rattle.user_rules.proofs.FirstBroken.{all_met, rule_at, rule_met}
use Rattle.user_rules.proofs.broken.first_rule_broken.Goals as goal

pub returns-then-not-holds : goal.returns-then-not-holds
returns-then-not-holds g c =
    rule_at (λ rule. rule.relation) c.args.rules.now (with_values c.args.view.now c.args.values.now) c.loop-rule.rule c.index-rules-rule.result c.loop-rule-test.true
    c.loop-rule.invariant c.index-rules-rule.is (sym c.holds.ensures ∙ c.if-not-holds.true)

pub loop-rule-preserved : goal.loop-rule-preserved
loop-rule-preserved g c =
    rule_met (λ rule. rule.relation) c.args.rules.now (with_values c.args.view.now c.args.values.now) c.loop-rule.rule c.index-rules-rule.result c.loop-rule-test.true
    c.loop-rule.invariant c.index-rules-rule.is (sym c.holds.ensures ∙ c.if-not-holds.false)

pub returns : goal.returns
returns g c = all_met (λ rule. rule.relation) c.args.rules.now (with_values c.args.view.now c.args.values.now) c.loop-rule.rule c.loop-rule-test.false c.loop-rule.invariant
