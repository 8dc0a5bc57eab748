use Rattle.sink.proofs.Tags.{tags_are_own}
use Rattle.sink.proofs.laws.tags_are_own.Goals as goal

pub returns : goal.returns
returns c = tags_are_own
