-- The processes of the table, one more each time.
use Rattle.std.proofs.Common.{◌∙◌, ◌++◌, ◌∷◌, [], ap}
use Rattle.run_view.specs.declared.process.ProcessView.{ProcessView}
use Rattle.run_view.specs.declared.seen_process.SeenProcess.{SeenProcess}
use Rattle.run_view.proofs.ShownProcesses.{no_more_processes, one_more_process}
use Rattle.run_view.proofs.seen_process.shown_processes.Goals as goal

pub returns-in_default : goal.returns-in_default
returns-in_default c =
    let none = rw c.processes-table.ensures at c.in_default.ensures in
    no_more_processes c.args.state.now.table c.loop-index.index c.loop-index.shown.items none c.loop-index.invariant

pub loop-index-preserved : goal.loop-index-preserved
loop-index-preserved c =
    let is = rw c.processes-table.ensures at c.in-Some.ensures in
    let number = c.in-Some.number.now in
    one_more_process c.args.state.now.table c.loop-index.index (number, c.in-Some.process.now) c.loop-index.shown.items _ is c.loop-index.invariant
    (c.in_ok-push.ensures.items
    ∙ ap (λ (view : ProcessView). c.loop-index.shown.items ++ (let one : SeenProcess = record { number = number; view = view } in one) ∷ []) c.process_view-view.ensures)
