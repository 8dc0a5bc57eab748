use Rattle.user_rules.proofs.FirstBroken.{first_broken_after}
use Rattle.user_rules.proofs.laws.first_broken_after.Goals as goal

pub returns : goal.returns
returns c = first_broken_after
