use Rattle.apex_laws.proofs.ProcessRules.{stopping_is_the_sentence}
use Rattle.apex_laws.proofs.stopping_is_the_sentence.Goals as goal

pub returns : goal.returns
returns c = stopping_is_the_sentence
