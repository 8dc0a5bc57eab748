use Rattle.wait_set.specs.Givens.{answer_given}
use Rattle.run_view.proofs.Righting.{puts_right}
use Rattle.run_view.proofs.lawful.put_right_by.Goals as goal

pub returns : goal.returns
returns c =
    puts_right (answer_given c.args.given.now).woken c.args.woken.now c.in_ok-ended.ended.items c.as_slice.result.now c.as_slice-2.result.now c.new-lawful.result.items
    c.add_put_right.new.lawful.items c.add_put_right-2.new.lawful.items c.in_ok-ended.ensures c.new-lawful.ensures.items c.as_slice.ensures.value c.as_slice-2.ensures.list
    c.in_ok-add_put_right.ensures c.in_ok-add_put_right-2.ensures
