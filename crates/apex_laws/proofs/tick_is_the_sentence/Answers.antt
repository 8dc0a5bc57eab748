use Rattle.apex_laws.proofs.Records.{tick_is_the_sentence}
use Rattle.apex_laws.proofs.tick_is_the_sentence.Goals as goal

pub returns : goal.returns
returns c = tick_is_the_sentence
