-- Two services are the same exactly if they have the same place among the variants.
use Rattle.std.proofs.Common.{◌∙◌, sym}
use denote.Enum.Bare.{same_true, true_same}
use Rattle.apex_types.specs.contracts.service.Service.{the_type}
use Rattle.piece_check.proofs.partition_piece.is_same_service.Goals as goal

pub returns : goal.returns
returns c = (λ is. same_true the_type tt _ _ (sym c.eq.ensures ∙ is), λ same. c.eq.ensures ∙ true_same the_type _ _ same)
