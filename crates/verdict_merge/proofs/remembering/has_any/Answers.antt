use Rattle.std.proofs.Common.{◌∙◌, ap, not}
use Rattle.verdict_merge.proofs.Surveying.{any_there}
use Rattle.verdict_merge.proofs.remembering.has_any.Goals as goal

pub returns : goal.returns
returns c = ap not c.is_empty.ensures ∙ any_there c.args.memories.now
