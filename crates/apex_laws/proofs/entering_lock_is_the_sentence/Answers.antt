use Rattle.apex_laws.proofs.Wakes.{entering_lock_is_the_sentence}
use Rattle.apex_laws.proofs.entering_lock_is_the_sentence.Goals as goal

pub returns : goal.returns
returns c = entering_lock_is_the_sentence
