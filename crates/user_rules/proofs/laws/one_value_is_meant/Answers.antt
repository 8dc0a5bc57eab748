use Rattle.user_rules.proofs.Meanings.{one_value_is_meant}
use Rattle.user_rules.proofs.laws.one_value_is_meant.Goals as goal

pub returns : goal.returns
returns c = one_value_is_meant
