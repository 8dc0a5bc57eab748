use Rattle.module_config.proofs.Fronts.{KeepsJudging}
use Rattle.module_config.proofs.described.judge.Given as goal

abbrev pub invariant-loop-index : goal.invariant-loop-index
invariant-loop-index g l = KeepsJudging (g.Item.Described.described l.size) l.items l.index
