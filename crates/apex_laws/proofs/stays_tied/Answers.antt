use Rattle.apex_laws.proofs.Stays.{stays_tied}
use Rattle.apex_laws.proofs.stays_tied.Goals as goal

pub returns : goal.returns
returns c = stays_tied
