use Rattle.apex_laws.proofs.Choices.{choice_is_the_sentence}
use Rattle.apex_laws.proofs.choice_is_the_sentence.Goals as goal

pub returns : goal.returns
returns c = choice_is_the_sentence
