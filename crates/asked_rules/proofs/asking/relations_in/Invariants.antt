use Rattle.std.proofs.Common.{map, take}
use Rattle.asked_rules.specs.Reading.{said}
use Rattle.asked_rules.specs.Asked.{HoldInTurn}
use Rattle.asked_rules.proofs.asking.relations_in.Given as goal

abbrev pub invariant-loop-rule : goal.invariant-loop-rule
invariant-loop-rule l = HoldInTurn (map said (take l.rule-index l.rules)) l.relations.items
