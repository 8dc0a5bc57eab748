use Rattle.apex_laws.proofs.BoundedParts.{part_stays_bounded}
use Rattle.apex_laws.proofs.part_stays_bounded.Goals as goal

pub returns : goal.returns
returns c = part_stays_bounded
