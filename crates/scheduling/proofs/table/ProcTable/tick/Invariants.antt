use Rattle.std.proofs.Common.{◌≡◌, take, true}
use Rattle.apex_machine.specs.Processes.{released}
use Rattle.scheduling.specs.Changes.{with_each}
use Rattle.scheduling.proofs.Ticks.{each_let}
use Rattle.scheduling.proofs.table.ProcTable.tick.Given as goal

abbrev pub invariant-loop-who : goal.invariant-loop-who
invariant-loop-who l = l.self ≡ with_each (each_let l.part (λ number. true) (take l.who-index l.named) (released l.place)) l.fn.self
