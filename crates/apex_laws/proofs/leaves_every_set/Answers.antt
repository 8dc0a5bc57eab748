use Rattle.apex_laws.proofs.PartSets.{leaves_every_set}
use Rattle.apex_laws.proofs.leaves_every_set.Goals as goal

pub returns : goal.returns
returns c = leaves_every_set
