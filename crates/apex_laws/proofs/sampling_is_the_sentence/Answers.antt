use Rattle.apex_laws.proofs.ObjectRules.{sampling_is_the_sentence}
use Rattle.apex_laws.proofs.sampling_is_the_sentence.Goals as goal

pub returns : goal.returns
returns c = sampling_is_the_sentence
