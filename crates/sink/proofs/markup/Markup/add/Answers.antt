use Rattle.std.proofs.Common.{inr, ◌∙◌}
use Rattle.sink.proofs.Parts.{grown}
use Rattle.sink.proofs.markup.Markup.add.Goals as goal

pub invariant_of-self : goal.invariant_of-self
invariant_of-self g c = grown _ _ _ _ c.self.invariant (inr (_, c.as_str-2.ensures.value ∙ c.in_ok-markup.ensures)) c.push_str.ensures.bytes
