use Rattle.std.proofs.Common.{sym, ◌∙◌}
use Rattle.std.proofs.lemmas.Int.{to_z-of_z}
use Rattle.scheduling.proofs.Carried.{named-found, named-none}
use Rattle.scheduling.proofs.table.ProcTable.change_named.Goals as goal

pub returns-in-Some : goal.returns-in-Some
returns-in-Some g c = λ becomes agrees.
    let fits = c.ranges.given in
    let found = simp to_z-of_z at (sym c.process_number.ensures ∙ c.in-Some.is) in
    c.change.ensures becomes agrees ∙ named-found becomes c.args.given c.in-Some.number _ found

pub returns-in_default : goal.returns-in_default
returns-in_default g c = λ becomes agrees.
    let fits = c.ranges.given in
    let none = simp to_z-of_z at (sym c.process_number.ensures ∙ c.in_default.is) in
    rw (← c.self.view_is) (named-none becomes c.args.given _ none c.self.invariant.numbers)
