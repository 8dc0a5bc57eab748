use Rattle.apex_laws.proofs.ListedConditions.{codes_are_the_sentences}
use Rattle.apex_laws.proofs.codes_are_the_sentences.Goals as goal

pub returns : goal.returns
returns c = codes_are_the_sentences
