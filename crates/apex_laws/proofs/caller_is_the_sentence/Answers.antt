use Rattle.apex_laws.proofs.ProcessRules.{caller_is_the_sentence}
use Rattle.apex_laws.proofs.caller_is_the_sentence.Goals as goal

pub returns : goal.returns
returns c = caller_is_the_sentence
