use Rattle.std.proofs.Common.{◌≡◌, ◌++◌, All, List, vec_len}
use Rattle.core_intake.specs.Answered.{IsHonest, Answered}
use Rattle.core_intake.proofs.intake.close_all.Given as goal

-- the lanes that are closed came after those that are left
abbrev pub invariant-lanes : goal.invariant-lanes
invariant-lanes g l = (closed : List Answered) × (l.lanes.items ++ closed ≡ l.fn.lanes.items) × All (IsHonest g.R.TextSource.can_fail) closed

abbrev pub decreases-lanes : goal.decreases-lanes
decreases-lanes g l = vec_len l.lanes
