use Rattle.apex_laws.proofs.GivenAnswers.{answer_is_the_sentence}
use Rattle.apex_laws.proofs.answer_is_the_sentence.Goals as goal

pub returns : goal.returns
returns c = answer_is_the_sentence
