use Rattle.module_config.proofs.Fronts.{KeepsReading}
use Rattle.module_config.proofs.described.read_each.Given as goal

abbrev pub invariant-loop-index : goal.invariant-loop-index
invariant-loop-index g l = KeepsReading (g.Item.Described.keeps l.size) (g.Item.Described.described l.size) l.items l.index l.found.items
