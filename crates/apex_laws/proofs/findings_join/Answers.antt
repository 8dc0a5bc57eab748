use Rattle.apex_laws.proofs.Joins.{findings_join}
use Rattle.apex_laws.proofs.findings_join.Goals as goal

pub returns : goal.returns
returns c = findings_join
