use Rattle.apex_laws.proofs.ObjectRules.{crossing_is_the_sentence}
use Rattle.apex_laws.proofs.crossing_is_the_sentence.Goals as goal

pub returns : goal.returns
returns c = crossing_is_the_sentence
