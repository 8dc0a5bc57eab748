use Rattle.apex_laws.proofs.PartSets.{each_named_leaves}
use Rattle.apex_laws.proofs.each_named_leaves.Goals as goal

pub returns : goal.returns
returns c = each_named_leaves
