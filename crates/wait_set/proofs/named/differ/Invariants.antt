use Rattle.std.proofs.Common.{◌↔◌, length}
use Rattle.wait_set.specs.Sets.{NobodyTwice}
use Rattle.wait_set.proofs.named.differ.Given as goal

-- no process occurs twice in the list if none does in what is left of it
abbrev pub invariant-others : goal.invariant-others
invariant-others l = NobodyTwice l.named ↔ NobodyTwice l.left

abbrev pub decreases-others : goal.decreases-others
decreases-others l = length l.left
