use Rattle.std.proofs.Common.{◌≤◌, length}
use Rattle.case_runner.proofs.archive.up_to_heading.Given as goal

abbrev pub invariant-loop-line : goal.invariant-loop-line
invariant-loop-line l = length l.left ≤ length l.text

abbrev pub decreases-loop-line : goal.decreases-loop-line
decreases-loop-line l = length l.left
