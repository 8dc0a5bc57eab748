use Rattle.std.proofs.Common.{◌≡◌}
use Rattle.apex_machine.specs.Errors.{healed}
use Rattle.scheduling.proofs.Below.{each_below}
use Rattle.scheduling.proofs.table.ProcTable.heal.Given as goal

abbrev pub invariant-loop-index : goal.invariant-loop-index
invariant-loop-index l = record {
  mode : l.self.mode ≡ l.fn.self.mode;
  table : l.self.table ≡ each_below (healed l.place l.left) l.index l.fn.self.table;
}
