use Rattle.std.proofs.Common.{rules}
use Rattle.std.proofs.lemmas.Int.{to_z-of_z}
use Rattle.apex_machine.specs.Processes.{stopped}
use Rattle.scheduling.proofs.table.ProcTable.stop_named.Goals as goal

pub returns : goal.returns
returns c =
    let fits = c.ranges.given in
    let changed = simp to_z-of_z at (c.change_named.ensures stopped (λ old new ran. search rules)) in
    changed
