use Rattle.apex_laws.proofs.Runs.{pieces_compose}
use Rattle.apex_laws.proofs.pieces_compose.Goals as goal

pub returns : goal.returns
returns c = pieces_compose
