use Rattle.apex_laws.proofs.Wakes.{time_out_is_the_sentence}
use Rattle.apex_laws.proofs.time_out_is_the_sentence.Goals as goal

pub returns : goal.returns
returns c = time_out_is_the_sentence
