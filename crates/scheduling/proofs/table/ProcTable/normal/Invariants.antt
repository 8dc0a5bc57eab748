use Rattle.std.proofs.Common.{◌≡◌}
use Rattle.apex_machine.specs.declared.state.Mode.TheVariants as mode
use Rattle.apex_machine.specs.declared.state.Process.{Process}
use Rattle.apex_machine.specs.Processes.{after_normal}
use Rattle.apex_machine.specs.State.{time_of}
use Rattle.scheduling.proofs.Below.{each_below}
use Rattle.scheduling.proofs.table.ProcTable.normal.Given as goal

abbrev pub invariant-loop-index : goal.invariant-loop-index
invariant-loop-index l = record {
  mode : l.self.mode ≡ mode.Normal;
  table : l.self.table
      ≡ each_below (λ number (process : Process). after_normal l.moment.place l.period (time_of l.moment.cores.now process.affinity) process) l.index l.fn.self.table;
}
