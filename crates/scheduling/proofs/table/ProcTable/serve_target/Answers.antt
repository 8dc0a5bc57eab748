-- The service sets in the process of the number what it sets.
use Rattle.std.proofs.Common.{rules}
use Rattle.std.proofs.lemmas.Int.{to_z-of_z}
use Rattle.apex_machine.specs.declared.state.Mode.{Mode}
use Rattle.apex_machine.specs.declared.state.Process.{Process}
use Rattle.apex_machine.specs.Processes.{set_in}
use Rattle.apex_machine.specs.State.{time_of}
use Rattle.scheduling.proofs.table.ProcTable.serve_target.Goals as goal

pub returns : goal.returns
returns c =
    let a = c.args in
    let m = a.moment.now in
    let fits = c.ranges.given in
    let change : Mode → Process → Process = λ mode found. set_in m.place a.period (time_of m.cores.now found.affinity) mode a.operation.now found in
    let changed = simp to_z-of_z at (c.change_named.ensures (change c.self.inside.mode) (λ old new ran. search rules)) in
    rw (← c.self.view_is) (rw (← c.self.view_is) at changed)
