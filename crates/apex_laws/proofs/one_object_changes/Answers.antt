use Rattle.apex_laws.proofs.PartObjects.{one_object_changes}
use Rattle.apex_laws.proofs.one_object_changes.Goals as goal

pub returns : goal.returns
returns c = one_object_changes
