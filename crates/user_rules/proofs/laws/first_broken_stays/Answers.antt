use Rattle.user_rules.proofs.FirstBroken.{first_broken_stays}
use Rattle.user_rules.proofs.laws.first_broken_stays.Goals as goal

pub returns : goal.returns
returns c = first_broken_stays
