use Rattle.apex_laws.proofs.EnteringSets.{refused_leaves_objects}
use Rattle.apex_laws.proofs.refused_leaves_objects.Goals as goal

pub returns : goal.returns
returns c = refused_leaves_objects
