use Rattle.apex_laws.proofs.SoundParts.{running_is_in_no_set}
use Rattle.apex_laws.proofs.running_is_in_no_set.Goals as goal

pub returns : goal.returns
returns c = running_is_in_no_set
