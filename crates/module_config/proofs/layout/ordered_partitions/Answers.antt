use Rattle.std.proofs.Common.{◌≤◌, sym, arith}
use Rattle.module_config.specs.Limits.{AreCoresOf}
use Rattle.module_config.specs.Order.{comes_before}
use Rattle.module_config.specs.Walk.{partition_in}
use Rattle.module_config.proofs.Placing.{keeps}
use Rattle.module_config.proofs.Numbers.{number_decides}
use Rattle.module_config.proofs.layout.ordered_partitions.Goals as goal

pub loop-index-preserved : goal.loop-index-preserved
loop-index-preserved c =
    let at = rw (c.number.ensures, c.deref.ensures.value) at c.place_among-place.ensures.value in
    keeps comes_before (AreCoresOf c.args.size.cores) (λ limits other. limits.number ≤ other.number) (partition_in c.args.size.cores) c.args.items.now c.loop-index.index c.loop-index.found.items c.index-items-index.result c.in_ok-partition.partition c.place_among-place.result
    c.insert.new.self.items (number_decides (λ limits. limits.number)) c.loop-index.invariant (omega arith) c.index-items-index.is (sym c.in_ok-partition.ensures.value) c.in_ok-partition.ensures.limits at c.in_ok-insert.ensures.items
