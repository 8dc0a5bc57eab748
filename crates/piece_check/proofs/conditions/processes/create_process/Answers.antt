use Rattle.std.proofs.Common.{refl, rules}
use Rattle.std.proofs.lemmas.Int.{to_z-of_z}
use mir.Syntax.{w64}
use mir.Val.{SFits}
use Rattle.piece_check.proofs.conditions.processes.create_process.Goals as goal

pub returns : goal.returns
returns c =
    let priorities : SFits w64 c.args.given.priority = search rules in
    let periods : SFits w64 c.args.given.period = search rules in
    let capacities : SFits w64 c.args.given.time_capacity = search rules in
    let priority = simp to_z-of_z at c.is_priority.ensures in
    let period = simp to_z-of_z at c.is_period.ensures in
    let suits = simp to_z-of_z at c.suits_period-suits.ensures in
    let capacity = simp to_z-of_z at c.is_time_capacity.ensures in
    let above = simp to_z-of_z at c.is_above_period.ensures in
    rw (c.with-5.ensures.value, c.with-4.ensures.value, c.with-3.ensures.value, c.with-2.ensures.value, c.with.ensures.value, c.creation.ensures.value, c.named.ensures, c.is_reached-is_full.ensures, c.process_limit.ensures.value, c.len.ensures, priority, period, suits, capacity, above, c.period.ensures.value, c.processes-processes.ensures)
    refl
