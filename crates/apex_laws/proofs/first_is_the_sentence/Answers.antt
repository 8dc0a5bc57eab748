use Rattle.apex_laws.proofs.ObjectRules.{first_is_the_sentence}
use Rattle.apex_laws.proofs.first_is_the_sentence.Goals as goal

pub returns : goal.returns
returns c = first_is_the_sentence
