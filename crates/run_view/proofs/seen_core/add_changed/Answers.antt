-- The changes of one core more each time.
use Rattle.std.proofs.Common.{arith}
use Rattle.run_view.specs.CoreChanges.{IsItsChange}
use Rattle.run_view.proofs.AddsExactly.{IsOfItem, adds_none_below, adds_of_all, adds_of_item, adds_up, get_at}
use Rattle.run_view.proofs.seen_core.add_changed.Goals as goal

pub loop-index-init : goal.loop-index-init
loop-index-init c = adds_none_below (IsOfItem (IsItsChange c.args.before.now) c.args.now.now) c.args.changes.now.items

pub loop-index-preserved : goal.loop-index-preserved
loop-index-preserved c =
    let its = IsItsChange c.args.before.now in
    let item = get_at c.args.now.now c.loop-index.index c.index-now-index.result c.loop-index-test.true c.index-now-index.is in
    adds_up (IsOfItem its c.args.now.now) c.loop-index.index c.loop-index.invariant
    (adds_of_item its c.args.now.now c.loop-index.index c.index-now-index.result item c.in_ok-add_if_changed.ensures)

pub returns : goal.returns
returns c = adds_of_all (IsItsChange c.args.before.now) c.args.now.now c.loop-index.index (omega arith) c.loop-index.invariant
