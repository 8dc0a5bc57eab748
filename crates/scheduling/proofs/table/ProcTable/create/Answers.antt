-- The new process goes last, is neither ready nor waits, and has no deadline.
use Rattle.std.proofs.Common.{◌≡◌, ◌≤◌, ◌+◌, length, None, ap, refl, ◌∙◌, arith}
use Rattle.std.proofs.lemmas.Int.{to_z-of_z}
use Rattle.indexmap.proofs.CallerLemmas.{insert_entry-new}
use Rattle.scheduling.specs.Processes.{processes_in}
use Rattle.scheduling.specs.Ranks.{deadline_time_of, due_time_of, rank_of}
use Rattle.scheduling.proofs.Kept.{IsKept-push}
use Rattle.scheduling.proofs.Numbers.{new-absent, new-fits}
use Rattle.scheduling.proofs.Tables.{lookup-item_at}
use Rattle.scheduling.proofs.table.ProcTable.create.Goals as goal

pub invariant_of-self-2 : goal.invariant_of-self-2
invariant_of-self-2 c =
    let new = rw (← c.self.view_is) at c.requires.new in
    let fits = c.ranges.period in
    let fits_too = c.ranges.time_capacity in
    let made = simp to_z-of_z at c.in_ok-created.ensures in
    let process = c.in_ok-created.created in
    let no_rank : rank_of c.args.number process ≡ None = rw made refl in
    let no_due : due_time_of c.args.number process ≡ None = rw made refl in
    let no_deadline : deadline_time_of c.args.number process ≡ None = rw made refl in
    let count : length c.self.inside.processes.entries + 1 ≤ c.saturating_add-count.result = omega (arith, c.len.ensures.len, c.len.ensures.small, c.saturating_add-count.ensures) in
    IsKept-push c.args.number process c.self.inside.processes.entries _ _ _ _ _ _ _ _ _ c.self.invariant (new-fits _ c.args.number new)
    (c.in_ok-insert.ensures.entries ∙ insert_entry-new _ c.self.inside.processes c.args.number _ (lookup-item_at c.args.number _ ∙ new-absent _ c.args.number new))
    no_rank no_due no_deadline
    c.in_ok-reserve.ensures.keys (omega (arith, count, c.in_ok-reserve.ensures.room)) c.in_ok-reserve-2.ensures.keys (omega (arith, count, c.in_ok-reserve-2.ensures.room))
    c.in_ok-reserve-3.ensures.keys (omega (arith, count, c.in_ok-reserve-3.ensures.room))

pub returns-clause-added : goal.returns-clause-added
returns-clause-added c =
    let new = rw (← c.self.view_is) at c.requires.new in
    let fits = c.ranges.period in
    let fits_too = c.ranges.time_capacity in
    let made = simp to_z-of_z at c.in_ok-created.ensures in
    rw (← c.self.view_is, ← made)
    (ap (processes_in c.self.inside.mode)
    (c.in_ok-insert.ensures.entries ∙ insert_entry-new _ c.self.inside.processes c.args.number _ (lookup-item_at c.args.number _ ∙ new-absent _ c.args.number new)))
