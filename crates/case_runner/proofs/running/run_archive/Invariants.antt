use Rattle.std.proofs.Common.{length}
use Rattle.case_runner.proofs.running.run_archive.Given as goal

abbrev pub decreases-loop-first : goal.decreases-loop-first
decreases-loop-first g l = length l.left
