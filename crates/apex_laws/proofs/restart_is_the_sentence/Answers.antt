use Rattle.apex_laws.proofs.RestartRules.{restart_is_the_sentence}
use Rattle.apex_laws.proofs.restart_is_the_sentence.Goals as goal

pub returns : goal.returns
returns c = restart_is_the_sentence
