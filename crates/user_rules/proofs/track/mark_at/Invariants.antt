use Rattle.std.proofs.Common.{◌≡◌, drop}
use Rattle.user_rules.specs.Memories.{mark_at}
use Rattle.user_rules.proofs.track.mark_at.Given as goal

-- the cells before are of other holders
abbrev pub invariant-cells : goal.invariant-cells
invariant-cells l = mark_at (drop l.index l.cells) l.holder ≡ mark_at l.cells l.holder
