-- One process more each time.
use Rattle.run_numbers.specs.Activities.{spent}
use Rattle.run_numbers.proofs.Added.{all_after, none_added, one_at}
use Rattle.run_numbers.proofs.ticks.observe_activities.Goals as goal

pub loop-index-init : goal.loop-index-init
loop-index-init c = none_added c.args.observed.now.items

pub loop-index-preserved : goal.loop-index-preserved
loop-index-preserved c =
    let given = spent c.args.part c.args.clock.now.cores c.args.core in
    one_at given c.args.state.now.table c.loop-index.index c.args.observed.now.items c.loop-index.observed.items _ c.loop-index.invariant
    (rw c.processes-table.ensures at c.in_ok-observe_one.ensures)

pub returns : goal.returns
returns c =
    let given = spent c.args.part c.args.clock.now.cores c.args.core in
    let table = c.args.state.now.table in
    let last = rw c.processes-table.ensures at c.len-last.ensures in
    all_after given table c.loop-index.index c.len-last.result c.args.observed.now.items c.loop-index.observed.items c.observe_one-2.result _ last c.loop-index-test.false c.loop-index.auto.index-end
    c.loop-index.invariant (rw c.processes-table.ensures at c.observe_one-2.ensures)
