use Rattle.apex_laws.proofs.ObjectRules.{mutex_is_the_sentence}
use Rattle.apex_laws.proofs.mutex_is_the_sentence.Goals as goal

pub returns : goal.returns
returns c = mutex_is_the_sentence
