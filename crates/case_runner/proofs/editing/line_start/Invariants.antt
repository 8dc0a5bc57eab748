use Rattle.std.proofs.Common.{◌≤◌, length}
use Rattle.case_runner.proofs.editing.line_start.Given as goal

abbrev pub invariant-loop : goal.invariant-loop
invariant-loop l = length l.left ≤ length l.text
