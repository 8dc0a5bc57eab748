-- A created process has a number that fits.
use Rattle.std.proofs.Common.{sym, ◌∙◌}
use Rattle.std.proofs.lemmas.Int.{to_z-of_z}
use Rattle.scheduling.proofs.Numbers.{created-none, given-some, there-is}
use Rattle.scheduling.proofs.table.ProcTable.created_number.Goals as goal

pub returns-in_err-process : goal.returns-in_err-process
returns-in_err-process c =
    let fits = c.ranges.number in
    let none = simp to_z-of_z at (sym c.process_number.ensures ∙ c.in_err-process.was) in
    rw (← c.self.view_is, c.from_residual.ensures) (created-none _ c.args.number c.self.invariant.numbers none)

pub returns : goal.returns
returns c =
    let fits = c.ranges.number in
    let found = simp to_z-of_z at (sym c.process_number.ensures ∙ c.in_ok-process.was) in
    let there = simp to_z-of_z at (rw c.in_ok-created.was at c.created.ensures) in
    (given-some c.args.number c.in_ok-process.process found, there-is _ _ there)
