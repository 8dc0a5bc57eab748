use Rattle.std.proofs.Common.{length}
use Rattle.case_runner.proofs.case.Case.rules.Given as goal

abbrev pub decreases-loop-left : goal.decreases-loop-left
decreases-loop-left l = length l.left
