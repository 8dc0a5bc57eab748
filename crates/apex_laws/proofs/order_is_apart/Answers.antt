use Rattle.apex_laws.proofs.Stays.{order_is_apart}
use Rattle.apex_laws.proofs.order_is_apart.Goals as goal

pub returns : goal.returns
returns c = order_is_apart
