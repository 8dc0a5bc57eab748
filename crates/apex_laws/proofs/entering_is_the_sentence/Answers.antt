use Rattle.apex_laws.proofs.Wakes.{entering_is_the_sentence}
use Rattle.apex_laws.proofs.entering_is_the_sentence.Goals as goal

pub returns : goal.returns
returns c = entering_is_the_sentence
