use Rattle.std.proofs.Common.{take}
use Rattle.verdict_merge.specs.Findings.{ComesBefore, IsLeast}
use Rattle.verdict_merge.proofs.finding.merge.Given as goal

abbrev pub invariant-loop-finding : goal.invariant-loop-finding
invariant-loop-finding l = IsLeast ComesBefore (take l.finding-index l.findings) l.first
