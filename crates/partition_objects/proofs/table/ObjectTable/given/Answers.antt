use Rattle.std.proofs.Common.{sym, ◌∙◌}
use Rattle.std.proofs.lemmas.Int.{to_z-of_z}
use Rattle.partition_objects.proofs.Numbers.{given-none, given-some}
use Rattle.partition_objects.proofs.table.ObjectTable.given.Goals as goal

pub returns-in_err-number : goal.returns-in_err-number
returns-in_err-number g c =
    let fits = c.ranges.number in
    let none = simp to_z-of_z at (sym c.object_number.ensures ∙ c.in_err-number.was) in
    rw (← c.self.view_is, c.from_residual.ensures) (sym (given-none _ c.args.number c.self.invariant none))

pub returns : goal.returns
returns g c =
    let fits = c.ranges.number in
    let found = simp to_z-of_z at (sym c.object_number.ensures ∙ c.in_ok-number.was) in
    c.at.ensures ∙ sym (given-some _ c.args.number c.in_ok-number.number found)
