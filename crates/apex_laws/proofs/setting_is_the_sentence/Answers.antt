use Rattle.apex_laws.proofs.ProcessRules.{setting_is_the_sentence}
use Rattle.apex_laws.proofs.setting_is_the_sentence.Goals as goal

pub returns : goal.returns
returns c = setting_is_the_sentence
