use Rattle.std.proofs.Common.{◌≡◌, vec_len}
use Rattle.order_search.proofs.search.Search.swaps.Given as goal

-- nothing is taken
abbrev pub invariant-loop-core : goal.invariant-loop-core
invariant-loop-core g l =
    let tip = g.T.Tip in
    record {
      undecided : tip.undecided l.tip ≡ tip.undecided l.fn.tip;
      decided : tip.decided l.tip ≡ tip.decided l.fn.tip;
      input : tip.input l.tip ≡ tip.input l.fn.tip;
    }

abbrev pub decreases-loop-swaps : goal.decreases-loop-swaps
decreases-loop-swaps g l = vec_len l.swaps
