use Rattle.apex_laws.proofs.ObjectRules.{blackboard_is_the_sentence}
use Rattle.apex_laws.proofs.blackboard_is_the_sentence.Goals as goal

pub returns : goal.returns
returns c = blackboard_is_the_sentence
