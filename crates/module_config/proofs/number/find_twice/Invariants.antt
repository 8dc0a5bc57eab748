use Rattle.std.proofs.Common.{◌≡◌, drop}
use Rattle.module_config.specs.Whole.{has_number_twice}
use Rattle.module_config.proofs.number.find_twice.Given as goal

abbrev pub invariant-loop-index : goal.invariant-loop-index
invariant-loop-index g l = has_number_twice g.Item.Numbered.number_of (drop l.index l.items) ≡ has_number_twice g.Item.Numbered.number_of l.items
