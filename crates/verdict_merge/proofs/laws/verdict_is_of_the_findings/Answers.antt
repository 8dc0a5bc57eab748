use Rattle.verdict_merge.proofs.Verdicts.{verdict_is_of_the_findings}
use Rattle.verdict_merge.proofs.laws.verdict_is_of_the_findings.Goals as goal

pub returns : goal.returns
returns c = verdict_is_of_the_findings
