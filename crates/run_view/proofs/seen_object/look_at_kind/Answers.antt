use Rattle.run_view.proofs.FoundItems.{found_objects}
use Rattle.run_view.proofs.seen_object.look_at_kind.Goals as goal

pub returns-clause-changes : goal.returns-clause-changes
returns-clause-changes c =
    found_objects c.args.part c.args.kind c.args.seen.now.items c.in_ok-now.now.items c.as_slice.result.now c.as_slice-2.result.now c.as_slice-3.result.now c.as_slice-4.result.now
    c.args.changes.now.items c.add_changed.new.changes.items c.add_removed.new.changes.items c.as_slice.ensures.value c.as_slice-2.ensures.value c.as_slice-3.ensures.value
    c.as_slice-4.ensures.value c.in_ok-add_changed.ensures c.in_ok-add_removed.ensures
