use Rattle.apex_laws.proofs.ObjectRules.{queue_is_the_sentence}
use Rattle.apex_laws.proofs.queue_is_the_sentence.Goals as goal

pub returns : goal.returns
returns c = queue_is_the_sentence
