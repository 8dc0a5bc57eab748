-- The processes of the partition, in the order of their creation.
use Rattle.std.proofs.Common.{◌≡◌, ◌≤◌, ◌∙◌, ◌++◌, ◌+◌, [], Option, ap, arith, length, refl}
use Rattle.piece_check.specs.declared.misnaming.Misnaming.{Misnaming}
use Rattle.piece_check.specs.Evidence.{misnamed_at_tick}
use Rattle.run_view.specs.Lawful.{if_misnamed}
use Rattle.run_view.proofs.Righting.{all_at_tick, got, not_at_tick, one_more}
use Rattle.run_view.proofs.lawful.put_right_at_tick.Goals as goal
use Rattle.run_view.proofs.lawful.put_right_at_tick.Goals.{else-loop-index-test, then-loop-index-test+in-Some+in_ok-add_misnamed+else-index-index-end}

pub returns-in_default : goal.returns-in_default
returns-in_default c = c.new-lawful.ensures.items ∙ not_at_tick c.args.piece.now.part c.seen.result c.args.core c.args.woken.now c.seen.ensures c.in_default.not-Partition

pub loop-index-preserved : goal.loop-index-preserved
loop-index-preserved c =
    let number = c.in-Partition.number in
    let part = c.args.piece.now.part in
    let table = c.processes-table.result.now.table in
    let there = got table c.loop-index.index _ c.in-Some.ensures in
    one_more (λ entry. if_misnamed (record { part = number; proc = entry.0 }) (misnamed_at_tick part c.args.core c.args.woken.now entry.0)) table c.loop-index.index _ []
    c.loop-index.lawful.items c.add_misnamed.new.lawful.items there.0 there.1 c.loop-index.invariant
    (c.in_ok-add_misnamed.ensures
    ∙ ap (λ (wrong : Option Misnaming). c.loop-index.lawful.items ++ if_misnamed (record { part = number; proc = c.in-Some.process.now }) wrong) c.misnamed_at_tick.ensures)

pub returns : goal.returns
returns c =
    let number = c.in-Partition.number in
    let part = c.args.piece.now.part in
    let table = c.processes-table.result.now.table in
    let held : table ≡ c.in-Partition.state.now.table = rw c.processes-table.ensures refl in
    elim c.loop-index-test.branch [
      | else-loop-index-test w ↦ absurd (omega (arith, c.loop-index.auto.index-end, w.loop-index-test.false))
      | then-loop-index-test+in-Some+in_ok-add_misnamed+else-index-index-end w ↦
          let there = got table c.loop-index.index _ w.in-Some.ensures in
          let whole : length table ≤ c.loop-index.index + 1 = omega (arith, c.len-index-end.ensures, there.0) in
          all_at_tick part number c.in-Partition.clock c.in-Partition.state c.args.core c.args.woken.now table (c.loop-index.index + 1) c.loop-index-test.lawful.items c.in-Partition.ensures
          held whole
          (rw w.lawful-is
          (one_more (λ entry. if_misnamed (record { part = number; proc = entry.0 }) (misnamed_at_tick part c.args.core c.args.woken.now entry.0)) table c.loop-index.index _ []
          c.loop-index.lawful.items w.add_misnamed.new.lawful.items there.0 there.1 c.loop-index.invariant
          (w.in_ok-add_misnamed.ensures
          ∙ ap (λ (wrong : Option Misnaming). c.loop-index.lawful.items ++ if_misnamed (record { part = number; proc = w.in-Some.process.now }) wrong) w.misnamed_at_tick.ensures)))
    ]
