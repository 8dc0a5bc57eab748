use Rattle.apex_laws.proofs.Exact.{who_waits_has_entry}
use Rattle.apex_laws.proofs.who_waits_has_entry.Goals as goal

pub returns : goal.returns
returns c = who_waits_has_entry
