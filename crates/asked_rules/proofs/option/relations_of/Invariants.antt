use Rattle.std.proofs.Common.{take}
use Rattle.asked_rules.specs.Options.{SayInTurn}
use Rattle.asked_rules.proofs.option.relations_of.Given as goal

abbrev pub invariant-loop-option : goal.invariant-loop-option
invariant-loop-option l = SayInTurn (take l.option-index l.options) l.relations.items
