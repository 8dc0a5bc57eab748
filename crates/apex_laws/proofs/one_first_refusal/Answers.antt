use Rattle.apex_laws.proofs.Refusals.{one_first_refusal}
use Rattle.apex_laws.proofs.one_first_refusal.Goals as goal

pub returns : goal.returns
returns c = one_first_refusal
