use Rattle.apex_laws.proofs.TickLeaves.{each_leaves_its_set}
use Rattle.apex_laws.proofs.each_leaves_its_set.Goals as goal

pub returns : goal.returns
returns c = each_leaves_its_set
