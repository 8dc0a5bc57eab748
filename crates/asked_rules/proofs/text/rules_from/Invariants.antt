use Rattle.toml.specs.View.{items_view}
use Rattle.asked_rules.specs.Reading.{of_rule, rule_in, said}
use Rattle.asked_rules.proofs.Fronts.{KeepsReading}
use Rattle.asked_rules.proofs.text.rules_from.Given as goal

abbrev pub invariant-loop-number : goal.invariant-loop-number
invariant-loop-number l = KeepsReading said (λ number value. of_rule number (rule_in (items_view l.memories) value)) l.items l.number l.rules
