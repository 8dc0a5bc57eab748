use Rattle.apex_laws.proofs.Records.{return_is_the_sentence}
use Rattle.apex_laws.proofs.return_is_the_sentence.Goals as goal

pub returns : goal.returns
returns c = return_is_the_sentence
