use Rattle.apex_laws.proofs.ObjectCalls.{object_call_is_the_sentence}
use Rattle.apex_laws.proofs.object_call_is_the_sentence.Goals as goal

pub returns : goal.returns
returns c = object_call_is_the_sentence
