use Rattle.std.proofs.Common.{◌≡◌, refl, sym, ◌∙◌, pos}
use Rattle.std.proofs.lemmas.Int.{to_z-of_z}
use Rattle.scheduling.proofs.Numbers.{created-none, created-some}
use Rattle.scheduling.proofs.Tables.{lookup-item_at}
use Rattle.scheduling.proofs.table.ProcTable.created.Goals as goal

pub returns-in_err-process : goal.returns-in_err-process
returns-in_err-process c =
    let fits = c.ranges.number in
    let none = simp to_z-of_z at (sym c.process_number.ensures ∙ c.in_err-process.was) in
    rw (← c.self.view_is, c.from_residual.ensures) (sym (created-none _ c.args.number c.self.invariant.numbers none))

pub returns : goal.returns
returns c =
    let fits = c.ranges.number in
    let found = simp to_z-of_z at (sym c.process_number.ensures ∙ c.in_ok-process.was) in
    let apart : ¬ (c.args.number ≡ pos 0) = λ is. c.if-number-eq0.false (rw is refl) in
    rw (← c.self.view_is)
    (c.get.ensures.value
    ∙ lookup-item_at c.in_ok-process.process c.self.inside.processes.entries
    ∙ sym (created-some _ c.args.number c.in_ok-process.process found apart))
