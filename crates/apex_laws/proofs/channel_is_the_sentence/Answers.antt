use Rattle.apex_laws.proofs.ObjectRules.{channel_is_the_sentence}
use Rattle.apex_laws.proofs.channel_is_the_sentence.Goals as goal

pub returns : goal.returns
returns c = channel_is_the_sentence
