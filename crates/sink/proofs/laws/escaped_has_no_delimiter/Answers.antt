use Rattle.sink.proofs.Escapes.{escaped_has_no_delimiter}
use Rattle.sink.proofs.laws.escaped_has_no_delimiter.Goals as goal

pub returns : goal.returns
returns c = escaped_has_no_delimiter
