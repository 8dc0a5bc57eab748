use Rattle.std.proofs.Common.{sym, arith}
use Rattle.module_config.proofs.Fronts.{reading-more}
use Rattle.module_config.proofs.described.read_each.Goals as goal

pub loop-index-preserved : goal.loop-index-preserved
loop-index-preserved g c =
    rw c.in_ok-push.ensures.items
    (reading-more (g.Item.Described.keeps c.args.size) (g.Item.Described.described c.args.size) c.args.items.now c.loop-index.index c.loop-index.found.items c.index-items-index.result c.in_ok-described.described c.loop-index.invariant
    (omega arith) c.index-items-index.is (sym c.in_ok-described.ensures.value) c.in_ok-described.ensures.limits)
