use Rattle.apex_laws.proofs.ProcessRules.{release_is_the_sentence}
use Rattle.apex_laws.proofs.release_is_the_sentence.Goals as goal

pub returns : goal.returns
returns c = release_is_the_sentence
