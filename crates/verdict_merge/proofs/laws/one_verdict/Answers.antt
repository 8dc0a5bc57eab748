use Rattle.verdict_merge.proofs.Ruled.{one_verdict}
use Rattle.verdict_merge.proofs.laws.one_verdict.Goals as goal

pub returns : goal.returns
returns c = one_verdict
