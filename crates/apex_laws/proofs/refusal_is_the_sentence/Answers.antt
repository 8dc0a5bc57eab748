use Rattle.apex_laws.proofs.Records.{refusal_is_the_sentence}
use Rattle.apex_laws.proofs.refusal_is_the_sentence.Goals as goal

pub returns : goal.returns
returns c = refusal_is_the_sentence
