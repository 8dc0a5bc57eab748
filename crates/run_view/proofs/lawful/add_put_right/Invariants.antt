use Rattle.std.proofs.Common.{◌≡◌, ◌++◌, take}
use Rattle.wait_set.specs.Givens.{answer_given}
use Rattle.run_view.specs.Lawful.{all_put_right}
use Rattle.run_view.proofs.lawful.add_put_right.Given as goal

abbrev pub invariant-loop-who : goal.invariant-loop-who
invariant-loop-who l = l.lawful.items ≡ l.fn.lawful.items ++ all_put_right (answer_given l.given).woken l.woken (take l.who-index l.listed)
