use Rattle.recording_maker.proofs.Outcomes.{made_is_the_outcome as is_the_outcome}
use Rattle.recording_maker.proofs.laws.made_is_the_outcome.Goals as goal

pub returns : goal.returns
returns c = is_the_outcome
