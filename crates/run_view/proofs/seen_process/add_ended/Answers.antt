-- The end of one process more each time.
use Rattle.std.proofs.Common.{◌-◌, length, arith}
use Rattle.run_view.specs.ProcessChanges.{IsItsEnd}
use Rattle.run_view.proofs.AddsExactly.{IsOfItemFromEnd, adds_none_below, adds_of_all_from_end, adds_of_item, adds_up, get_at}
use Rattle.run_view.proofs.seen_process.add_ended.Goals as goal

pub loop-after-init : goal.loop-after-init
loop-after-init c = adds_none_below (IsOfItemFromEnd (IsItsEnd c.args.part c.args.now.now) c.args.before.now) c.args.changes.now.items

pub loop-after-preserved : goal.loop-after-preserved
loop-after-preserved c =
    let its = IsItsEnd c.args.part c.args.now.now in
    let before = c.args.before.now in
    let index = length before - 1 - c.loop-after.after in
    let item = get_at before index c.index-before-index.result (omega arith) c.index-before-index.is in
    adds_up (IsOfItemFromEnd its before) c.loop-after.after c.loop-after.invariant (adds_of_item its before index c.index-before-index.result item c.in_ok-add_if_ended.ensures)

pub returns : goal.returns
returns c = adds_of_all_from_end (IsItsEnd c.args.part c.args.now.now) c.args.before.now c.loop-after.after (omega arith) c.loop-after.invariant
