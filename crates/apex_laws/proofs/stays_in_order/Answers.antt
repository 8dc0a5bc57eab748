use Rattle.apex_laws.proofs.Stays.{stays_in_order}
use Rattle.apex_laws.proofs.stays_in_order.Goals as goal

pub returns : goal.returns
returns c = stays_in_order
