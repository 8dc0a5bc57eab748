use Rattle.apex_laws.proofs.DeadlineRules.{deadline_is_the_sentence}
use Rattle.apex_laws.proofs.deadline_is_the_sentence.Goals as goal

pub returns : goal.returns
returns c = deadline_is_the_sentence
