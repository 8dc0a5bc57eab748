use Rattle.apex_laws.proofs.Runs.{at_most_one}
use Rattle.apex_laws.proofs.at_most_one_next_state.Goals as goal

pub returns : goal.returns
returns c = at_most_one
