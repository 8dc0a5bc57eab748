use Rattle.user_rules.proofs.Meanings.{values_are_meant}
use Rattle.user_rules.proofs.laws.values_are_meant.Goals as goal

pub returns : goal.returns
returns c = values_are_meant
