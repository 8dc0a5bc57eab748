use Rattle.std.proofs.Common.{◌≡◌}
use Rattle.order_tip.proofs.outlook.Outlook.take_again.Given as goal

-- no record is handed out
abbrev pub invariant-loop-index : goal.invariant-loop-index
invariant-loop-index g l = l.self.lanes ≡ l.fn.self.lanes
