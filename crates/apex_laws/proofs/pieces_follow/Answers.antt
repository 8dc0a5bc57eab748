use Rattle.apex_laws.proofs.Runs.{pieces_follow}
use Rattle.apex_laws.proofs.pieces_follow.Goals as goal

pub returns : goal.returns
returns c = pieces_follow
