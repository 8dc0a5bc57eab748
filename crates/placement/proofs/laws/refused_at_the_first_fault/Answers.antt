use Rattle.placement.proofs.Refusal.{refused_at_first}
use Rattle.placement.proofs.laws.refused_at_the_first_fault.Goals as goal

pub returns : goal.returns
returns c = refused_at_first
