use Rattle.apex_laws.proofs.ObjectRules.{semaphore_is_the_sentence}
use Rattle.apex_laws.proofs.semaphore_is_the_sentence.Goals as goal

pub returns : goal.returns
returns c = semaphore_is_the_sentence
