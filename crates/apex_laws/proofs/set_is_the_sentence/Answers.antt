use Rattle.apex_laws.proofs.Records.{set_is_the_sentence}
use Rattle.apex_laws.proofs.set_is_the_sentence.Goals as goal

pub returns : goal.returns
returns c = set_is_the_sentence
