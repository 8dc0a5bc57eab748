use Rattle.apex_laws.proofs.Numbers.{new_number_is_the_sentence}
use Rattle.apex_laws.proofs.new_number_is_the_sentence.Goals as goal

pub returns : goal.returns
returns c = new_number_is_the_sentence
