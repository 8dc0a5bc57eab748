use Rattle.report.proofs.Whole.{there_is_one_outcome}
use Rattle.report.proofs.laws.one_outcome.Goals as goal

pub returns : goal.returns
returns c = there_is_one_outcome
