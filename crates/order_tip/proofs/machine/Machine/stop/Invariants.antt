use Rattle.std.proofs.Common.{◌≡◌}
use Rattle.order_tip.proofs.machine.Machine.stop.Given as goal

-- no record is handed out
abbrev pub invariant-loop-core : goal.invariant-loop-core
invariant-loop-core g l = l.self.outlook.lanes ≡ l.fn.self.outlook.lanes
