use Rattle.std.proofs.Common.{inl}
use Rattle.sink.proofs.Parts.{grown}
use Rattle.sink.proofs.markup.Markup.mark.Goals as goal

pub invariant_of-self : goal.invariant_of-self
invariant_of-self c = grown _ _ c.args.markup.now _ c.self.invariant (inl c.requires) c.push_str.ensures.bytes
