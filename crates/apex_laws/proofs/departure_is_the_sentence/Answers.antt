use Rattle.apex_laws.proofs.Crossings.{departure_is_the_sentence}
use Rattle.apex_laws.proofs.departure_is_the_sentence.Goals as goal

pub returns : goal.returns
returns c = departure_is_the_sentence
