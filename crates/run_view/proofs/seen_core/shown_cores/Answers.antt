use Rattle.run_view.proofs.ShownCores.{one_more_core}
use Rattle.run_view.proofs.seen_core.shown_cores.Goals as goal

pub loop-number-preserved : goal.loop-number-preserved
loop-number-preserved c =
    one_more_core c.args.config.now c.args.clock.now.cores c.loop-number.number c.new.result c.core_view-view.result c.loop-number.shown.items _ c.new.ensures c.core_view-view.ensures
    c.loop-number.invariant c.in_ok-extend_from_slice.ensures.items
