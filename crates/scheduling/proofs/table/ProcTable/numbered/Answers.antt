use Rattle.std.proofs.Common.{sym, ap, ◌∙◌}
use Rattle.std.proofs.lemmas.Int.{to_z-of_z}
use Rattle.apex_machine.specs.Arguments.{natural_of}
use Rattle.apex_machine.specs.State.{item_at}
use Rattle.scheduling.proofs.Numbers.{natural-none, natural-some}
use Rattle.scheduling.proofs.Tables.{lookup-item_at}
use Rattle.scheduling.proofs.table.ProcTable.numbered.Goals as goal

pub returns-in_err-process : goal.returns-in_err-process
returns-in_err-process c =
    let fits = c.ranges.number in
    let none = simp to_z-of_z at (sym c.natural_number.ensures ∙ c.in_err-process.was) in
    rw (← c.self.view_is, c.from_residual.ensures) (sym (natural-none _ (natural_of c.args.number) c.self.invariant.numbers none))

pub returns : goal.returns
returns c =
    let fits = c.ranges.number in
    let found = simp to_z-of_z at (sym c.natural_number.ensures ∙ c.in_ok-process.was) in
    rw (← c.self.view_is)
    (c.get.ensures.value
    ∙ lookup-item_at c.in_ok-process.process c.self.inside.processes.entries
    ∙ ap (item_at c.self.inside.processes.entries) (natural-some (natural_of c.args.number) c.in_ok-process.process found))
