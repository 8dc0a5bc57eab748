use Rattle.std.proofs.Common.{◌≡◌, take}
use Rattle.run_view.specs.Lawful.{all_put_right_at_tick}
use Rattle.run_view.proofs.lawful.put_right_at_tick.Given as goal

abbrev pub invariant-loop-index : goal.invariant-loop-index
invariant-loop-index l = l.lawful.items ≡ all_put_right_at_tick l.number l.piece.part l.core l.woken (take l.index l.table.table)
