use Rattle.apex_laws.proofs.ProcessRules.{creation_is_the_sentence}
use Rattle.apex_laws.proofs.creation_is_the_sentence.Goals as goal

pub returns : goal.returns
returns c = creation_is_the_sentence
