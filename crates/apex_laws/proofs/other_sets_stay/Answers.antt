use Rattle.apex_laws.proofs.PartObjects.{other_sets_stay}
use Rattle.apex_laws.proofs.other_sets_stay.Goals as goal

pub returns : goal.returns
returns c = other_sets_stay
