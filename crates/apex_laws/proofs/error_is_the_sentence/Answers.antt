use Rattle.apex_laws.proofs.RestartRules.{error_is_the_sentence}
use Rattle.apex_laws.proofs.error_is_the_sentence.Goals as goal

pub returns : goal.returns
returns c = error_is_the_sentence
