use Rattle.std.proofs.Common.{take}
use Rattle.user_rules.specs.FirstBroken.{MeetsAll}
use Rattle.user_rules.specs.Meets.{with_values}
use Rattle.user_rules.specs.Rules.{relations_of}
use Rattle.user_rules.proofs.broken.first_rule_broken.Given as goal

-- the rules so far are met
abbrev pub invariant-loop-rule : goal.invariant-loop-rule
invariant-loop-rule g l = MeetsAll (take l.rule (relations_of l.rules)) (with_values l.view l.values)
