use Rattle.apex_laws.proofs.WholeCalls.{call_is_the_sentence}
use Rattle.apex_laws.proofs.call_is_the_sentence.Goals as goal

pub returns : goal.returns
returns c = call_is_the_sentence
