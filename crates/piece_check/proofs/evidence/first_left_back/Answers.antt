-- The place that a search finds is that of the first core that is left back.
use Rattle.std.proofs.Common.{rules, tests, ◌∙◌}
use Rattle.std.proofs.lemmas.Iterator.{YieldsList-from_slice}
use Rattle.std.proofs.lemmas.Iterator.Adapters.{position_from-zero}
use Rattle.std.proofs.lemmas.Iterator.Search.{position_from_yields_List}
use Rattle.piece_check.specs.Evidence.{leaves_back}
use Rattle.piece_check.proofs.evidence.first_left_back.Goals as goal

pub returns : goal.returns
returns c =
    let test = leaves_back c.args.config.now c.args.now in
    position_from_yields_List test _ _ c.position.result c.position.ensures.ran (YieldsList-from_slice c.args.states.now cc) (λ x b q k. search (rules, tests))
    ∙ position_from-zero test c.args.states.now
