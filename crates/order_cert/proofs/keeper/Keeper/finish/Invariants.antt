use Rattle.std.proofs.Common.{◌<◌, ◌≤◌, ℕ, get_or}
use Rattle.order_cert.specs.Kept.{taken_of}
use Rattle.order_cert.proofs.keeper.Keeper.finish.Given as goal

abbrev pub invariant-loop-core : goal.invariant-loop-core
invariant-loop-core l = (k : ℕ) → k < l.core → get_or l.lens k 0 ≤ taken_of l.self k
