use Rattle.apex_laws.proofs.ListedConditions.{conditions_are_the_sentences}
use Rattle.apex_laws.proofs.conditions_are_the_sentences.Goals as goal

pub returns : goal.returns
returns c = conditions_are_the_sentences
