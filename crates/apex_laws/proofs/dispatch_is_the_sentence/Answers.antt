use Rattle.apex_laws.proofs.Records.{dispatch_is_the_sentence}
use Rattle.apex_laws.proofs.dispatch_is_the_sentence.Goals as goal

pub returns : goal.returns
returns c = dispatch_is_the_sentence
