use Rattle.apex_laws.proofs.ObjectRules.{event_is_the_sentence}
use Rattle.apex_laws.proofs.event_is_the_sentence.Goals as goal

pub returns : goal.returns
returns c = event_is_the_sentence
