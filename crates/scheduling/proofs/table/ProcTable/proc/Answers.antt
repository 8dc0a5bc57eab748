-- A process that is at the index of its number, and else the one under the number.
use Rattle.std.proofs.Common.{◌≡◌, sym, ◌∙◌, arith}
use Rattle.std.proofs.lemmas.Bool.Decides.{nat_tests}
use Rattle.scheduling.proofs.Tables.{lookup-item_at}
use Rattle.scheduling.proofs.table.ProcTable.proc.Goals as goal

pub returns-in-Some : goal.returns-in-Some
returns-in-Some c =
    let same : c.in-Some.found.now ≡ c.args.number = grind (arith, nat_tests, c.eq.ensures, c.if-eq.true) in
    let there = c.in-Some.ensures.value in
    rw (← c.self.view_is, ← same) (sym there ∙ lookup-item_at c.in-Some.found.now c.self.inside.processes.entries)

pub returns-in_default : goal.returns-in_default
returns-in_default c = rw (← c.self.view_is) (c.get.ensures.value ∙ lookup-item_at c.args.number c.self.inside.processes.entries)
