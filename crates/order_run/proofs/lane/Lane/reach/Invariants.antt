use Rattle.std.proofs.Common.{◌≡◌}
use Rattle.order_run.proofs.lane.Lane.reach.Given as goal

-- what is left stays what it was
abbrev pub invariant-loop : goal.invariant-loop
invariant-loop g l = l.self ≡ l.fn.self
