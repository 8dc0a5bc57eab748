-- Two causes are the same if they have the same place among the variants.
use Rattle.std.proofs.Common.{◌∙◌, sym}
use denote.Enum.Bare.{same_true}
use Rattle.apex_types.specs.contracts.cause.Cause.{the_type}
use Rattle.recording_maker.proofs.made.is_same_cause.Goals as goal

pub returns : goal.returns
returns c = λ is. same_true the_type tt _ _ (sym c.eq.ensures ∙ is)
