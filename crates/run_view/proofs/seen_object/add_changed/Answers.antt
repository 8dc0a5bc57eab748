-- The changes of one object more each time.
use Rattle.std.proofs.Common.{arith}
use Rattle.std.proofs.lemmas.List.{length-map}
use Rattle.run_view.specs.ObjectChanges.{IsItsChange}
use Rattle.run_view.specs.Plain.{plain_object, plain_objects}
use Rattle.run_view.proofs.AddsExactly.{IsOfItem, adds_none_below, adds_of_all, adds_of_item, adds_up}
use Rattle.run_view.proofs.Mapped.{get_mapped}
use Rattle.run_view.proofs.seen_object.add_changed.Goals as goal

pub loop-index-init : goal.loop-index-init
loop-index-init c =
    adds_none_below (IsOfItem (IsItsChange c.args.part c.args.kind (plain_objects c.args.before.now)) (plain_objects c.args.now.now)) c.args.changes.now.items

pub loop-index-preserved : goal.loop-index-preserved
loop-index-preserved c =
    let its = IsItsChange c.args.part c.args.kind (plain_objects c.args.before.now) in
    let now = plain_objects c.args.now.now in
    let item = get_mapped plain_object c.args.now.now c.loop-index.index c.index-now-index.result c.loop-index-test.true c.index-now-index.is in
    adds_up (IsOfItem its now) c.loop-index.index c.loop-index.invariant
    (adds_of_item its now c.loop-index.index (plain_object c.index-now-index.result) item c.in_ok-add_if_changed.ensures)

pub returns : goal.returns
returns c =
    adds_of_all (IsItsChange c.args.part c.args.kind (plain_objects c.args.before.now)) (plain_objects c.args.now.now) c.loop-index.index
    (omega (arith, length-map c.args.now.now plain_object)) c.loop-index.invariant
