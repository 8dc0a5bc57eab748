-- One of all the conditions has the code exactly if one of those that are left has it.
use Rattle.std.proofs.Common.{◌↔◌, drop}
use Rattle.apex_machine.specs.Step.{IsCodeOf}
use Rattle.wait_set.proofs.conditions.is_code_of.Given as goal

abbrev pub invariant-loop-condition : goal.invariant-loop-condition
invariant-loop-condition l = IsCodeOf l.conditions l.code ↔ IsCodeOf (drop l.condition-index l.conditions) l.code
