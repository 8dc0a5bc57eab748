use Rattle.wait_set.proofs.Last.{enters_last}
use Rattle.wait_set.proofs.laws.enters_last.Goals as goal

pub returns : goal.returns
returns c = enters_last
