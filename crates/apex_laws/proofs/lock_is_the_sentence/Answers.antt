use Rattle.apex_laws.proofs.LockRules.{lock_is_the_sentence}
use Rattle.apex_laws.proofs.lock_is_the_sentence.Goals as goal

pub returns : goal.returns
returns c = lock_is_the_sentence
