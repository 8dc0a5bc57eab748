-- The end of one object more each time.
use Rattle.std.proofs.Common.{◌≡◌, ◌-◌, Some, length, subst, sym, arith}
use Rattle.std.proofs.lemmas.List.{length-map}
use Rattle.std.specs.List.{slice_get}
use Rattle.run_view.specs.ObjectChanges.{IsItsEnd}
use Rattle.run_view.specs.Plain.{plain_object, plain_objects}
use Rattle.run_view.proofs.AddsExactly.{IsOfItemFromEnd, adds_none_below, adds_of_all_from_end, adds_of_item, adds_up}
use Rattle.run_view.proofs.Mapped.{get_mapped}
use Rattle.run_view.proofs.seen_object.add_removed.Goals as goal

pub loop-after-init : goal.loop-after-init
loop-after-init c =
    adds_none_below (IsOfItemFromEnd (IsItsEnd c.args.part c.args.kind (plain_objects c.args.now.now)) (plain_objects c.args.before.now)) c.args.changes.now.items

pub loop-after-preserved : goal.loop-after-preserved
loop-after-preserved c =
    let its = IsItsEnd c.args.part c.args.kind (plain_objects c.args.now.now) in
    let before = plain_objects c.args.before.now in
    let object = c.index-before-index.result in
    let index = length c.args.before.now - 1 - c.loop-after.after in
    let item = get_mapped plain_object c.args.before.now index object (omega arith) c.index-before-index.is in
    let there = subst (λ count. slice_get before (count - 1 - c.loop-after.after) ≡ Some (plain_object object)) (sym (length-map c.args.before.now plain_object)) item in
    adds_up (IsOfItemFromEnd its before) c.loop-after.after c.loop-after.invariant
    (adds_of_item its before (length before - 1 - c.loop-after.after) (plain_object object) there c.in_ok-add_if_removed.ensures)

pub returns : goal.returns
returns c =
    adds_of_all_from_end (IsItsEnd c.args.part c.args.kind (plain_objects c.args.now.now)) (plain_objects c.args.before.now) c.loop-after.after
    (omega (arith, length-map c.args.before.now plain_object)) c.loop-after.invariant
