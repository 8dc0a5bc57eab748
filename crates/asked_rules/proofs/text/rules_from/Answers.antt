use Rattle.std.proofs.Common.{Vec, Global, ap, arith, map}
use Rattle.toml.specs.View.{view, items_view}
use Rattle.asked_rules.specs.Reading.{of_rule, rule_in, said}
use Rattle.asked_rules.specs.declared.rule.NamedRule.{NamedRule}
use Rattle.asked_rules.proofs.Files.{built_so}
use Rattle.asked_rules.proofs.Fronts.{all_read, one_more, one_refused, rule_built}
use Rattle.asked_rules.proofs.text.rules_from.Goals as goal

pub loop-number-preserved : goal.loop-number-preserved
loop-number-preserved c =
    let number = c.loop-number.number in
    let item = c.index-items-number.result in
    one_more said (λ place value. of_rule place (rule_in (items_view c.args.memories.now) value)) c.args.items.now number c.loop-number.rules c.added-rules.result item
    c.in-Ok.rule c.loop-number.invariant (omega arith) c.index-items-number.is
    (rule_built said number c.in-Ok.rule (rule_in (items_view c.args.memories.now) (view item)) c.in-Ok.ensures) c.added-rules.ensures

pub returns-in-Err-clause-value : goal.returns-in-Err-clause-value
returns-in-Err-clause-value c =
    let number = c.loop-number.number in
    one_refused said (λ place value. of_rule place (rule_in (items_view c.args.memories.now) value)) c.args.items.now number c.loop-number.rules c.index-items-number.result _
    c.loop-number.invariant (omega arith) c.index-items-number.is (ap (of_rule number) c.in-Err.ensures)

pub returns-clause-value : goal.returns-clause-value
returns-clause-value c =
    all_read said (λ place value. of_rule place (rule_in (items_view c.args.memories.now) value)) c.args.items.now c.loop-number.number c.loop-number.rules
    c.loop-number.invariant (omega arith)

pub returns-in-Err-clause-refused : goal.returns-in-Err-clause-refused
returns-in-Err-clause-refused c = built_so (λ (built : Vec NamedRule Global). map said built.items) _ _ (returns-in-Err-clause-value c)

pub returns-clause-refused : goal.returns-clause-refused
returns-clause-refused c = built_so (λ (built : Vec NamedRule Global). map said built.items) _ _ (returns-clause-value c)
