use Rattle.std.proofs.Common.{rules}
use Rattle.core_intake.proofs.Relays.{forks}
use Rattle.core_intake.proofs.lane.Lane.open.Goals as goal

pub another-side-requires-clause-rule : goal.another-side-requires-clause-rule
another-side-requires-clause-rule g c = forks _ _ (search rules) (search rules)
