use Rattle.std.proofs.Common.{◌∙◌, sym}
use Rattle.user_rules.specs.Rules.{relations_of}
use Rattle.verdict_merge.proofs.Surveying.{all_at_once, none_at_once}
use Rattle.verdict_merge.proofs.remembering.tested_at_once.Goals as goal

pub returns-then-has_any : goal.returns-then-has_any
returns-then-has_any g c = none_at_once c.args.memories.now (relations_of c.args.rules.now) (sym c.has_any.ensures ∙ c.if-has_any.true)

pub returns-else-has_any : goal.returns-else-has_any
returns-else-has_any g c = all_at_once c.args.memories.now (relations_of c.args.rules.now) (sym c.has_any.ensures ∙ c.if-has_any.false)
