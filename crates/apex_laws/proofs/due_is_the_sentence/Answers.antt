use Rattle.apex_laws.proofs.ProcessRules.{due_is_the_sentence}
use Rattle.apex_laws.proofs.due_is_the_sentence.Goals as goal

pub returns : goal.returns
returns c = due_is_the_sentence
