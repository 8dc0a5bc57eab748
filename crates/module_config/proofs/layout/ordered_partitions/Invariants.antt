use Rattle.std.proofs.Common.{◌≤◌}
use Rattle.module_config.specs.Limits.{AreCoresOf}
use Rattle.module_config.specs.Order.{comes_before}
use Rattle.module_config.specs.Walk.{partition_in}
use Rattle.module_config.proofs.Placing.{KeepsPlaced}
use Rattle.module_config.proofs.layout.ordered_partitions.Given as goal

abbrev pub invariant-loop-index : goal.invariant-loop-index
invariant-loop-index l =
    KeepsPlaced comes_before (AreCoresOf l.size.cores) (λ limits other. limits.number ≤ other.number) (partition_in l.size.cores) l.items l.index l.found.items
