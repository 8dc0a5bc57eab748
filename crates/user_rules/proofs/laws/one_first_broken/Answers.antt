use Rattle.user_rules.proofs.FirstBroken.{one_first_broken}
use Rattle.user_rules.proofs.laws.one_first_broken.Goals as goal

pub returns : goal.returns
returns c = one_first_broken
