use Rattle.placement.proofs.Refusal.{first_is_refused}
use Rattle.placement.proofs.laws.first_fault_is_refused.Goals as goal

pub returns : goal.returns
returns c = first_is_refused
