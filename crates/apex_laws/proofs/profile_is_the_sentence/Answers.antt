use Rattle.apex_laws.proofs.Profile.{profile_is_the_sentence}
use Rattle.apex_laws.proofs.profile_is_the_sentence.Goals as goal

pub returns : goal.returns
returns c = profile_is_the_sentence
