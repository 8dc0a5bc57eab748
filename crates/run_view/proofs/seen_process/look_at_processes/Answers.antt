use Rattle.run_view.proofs.FoundItems.{found_processes}
use Rattle.run_view.proofs.seen_process.look_at_processes.Goals as goal

pub returns-clause-changes : goal.returns-clause-changes
returns-clause-changes c =
    found_processes c.args.part c.args.seen.now.items c.in_ok-now.now.items c.as_slice.result.now c.as_slice-2.result.now c.as_slice-3.result.now c.as_slice-4.result.now
    c.args.changes.now.items c.add_changed.new.changes.items c.add_ended.new.changes.items c.as_slice.ensures.value c.as_slice-2.ensures.value c.as_slice-3.ensures.value
    c.as_slice-4.ensures.value c.in_ok-add_changed.ensures c.in_ok-add_ended.ensures
