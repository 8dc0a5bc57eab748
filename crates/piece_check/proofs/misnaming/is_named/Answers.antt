-- The test passes at one process exactly if the list names this one.
use Rattle.std.proofs.Common.{rules, tests, sym, ◌∙◌}
use Rattle.std.proofs.lemmas.Iterator.{YieldsList-from_slice}
use Rattle.std.proofs.lemmas.Iterator.Search.{any_from_yields_List}
use Rattle.apex_machine.specs.State.{is_same}
use Rattle.wait_set.proofs.WaitersOf.{is_named-any}
use Rattle.piece_check.proofs.misnaming.is_named.Goals as goal

pub returns : goal.returns
returns c =
    any_from_yields_List (is_same c.args.who) _ _ _ c.any.ensures.ran (YieldsList-from_slice c.args.named.now cc) (λ x b q k. search (rules, tests))
    ∙ sym (is_named-any c.args.who c.args.named.now)
