use Rattle.order_tip.proofs.Outcomes.{proposal_is_the_outcome as is_the_outcome}
use Rattle.order_tip.proofs.laws.proposal_is_the_outcome.Goals as goal

pub returns : goal.returns
returns c = is_the_outcome
