use Rattle.apex_laws.proofs.DeadlineRules.{missed_is_the_sentence}
use Rattle.apex_laws.proofs.missed_is_the_sentence.Goals as goal

pub returns : goal.returns
returns c = missed_is_the_sentence
