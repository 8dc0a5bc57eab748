use Rattle.apex_laws.proofs.Crossings.{arrival_is_the_sentence}
use Rattle.apex_laws.proofs.arrival_is_the_sentence.Goals as goal

pub returns : goal.returns
returns c = arrival_is_the_sentence
