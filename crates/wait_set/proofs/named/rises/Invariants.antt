use Rattle.std.proofs.Common.{◌↔◌, length}
use Rattle.apex_types.specs.Rising.{IsRising}
use Rattle.wait_set.proofs.named.rises.Given as goal

-- the list rises if what is left of it does
abbrev pub invariant-pairs : goal.invariant-pairs
invariant-pairs l = IsRising l.named ↔ IsRising l.left

abbrev pub decreases-pairs : goal.decreases-pairs
decreases-pairs l = length l.left
