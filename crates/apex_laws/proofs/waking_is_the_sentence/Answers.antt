use Rattle.apex_laws.proofs.ProcessRules.{waking_is_the_sentence}
use Rattle.apex_laws.proofs.waking_is_the_sentence.Goals as goal

pub returns : goal.returns
returns c = waking_is_the_sentence
