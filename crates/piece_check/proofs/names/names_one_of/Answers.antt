-- The test passes at one process exactly if the list names one of the partition.
use Rattle.std.proofs.Common.{rules, tests, nat_eq, ◌∙◌}
use Rattle.std.proofs.lemmas.Iterator.{YieldsList-from_slice}
use Rattle.std.proofs.lemmas.Iterator.Search.{any_from_yields_List}
use Rattle.piece_check.proofs.Numbering.{names_one_of_any}
use Rattle.piece_check.proofs.names.names_one_of.Goals as goal

pub returns : goal.returns
returns c =
    any_from_yields_List (λ who. nat_eq who.part c.args.number) _ _ _ c.any.ensures.ran (YieldsList-from_slice c.args.named.now cc) (λ who b q k. search (rules, tests))
    ∙ names_one_of_any c.args.number c.args.named.now
