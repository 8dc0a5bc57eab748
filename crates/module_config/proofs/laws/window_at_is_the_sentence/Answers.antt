use Rattle.module_config.proofs.InWindow.{window_at_is_the_sentence}
use Rattle.module_config.proofs.laws.window_at_is_the_sentence.Goals as goal

pub returns : goal.returns
returns c = window_at_is_the_sentence
