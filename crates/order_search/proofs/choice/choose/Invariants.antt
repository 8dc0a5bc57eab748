use Rattle.std.proofs.Common.{◌≡◌, ◌<◌, IfSome}
use Rattle.order_search.proofs.choice.choose.Given as goal

-- nothing is taken; what is best so far is of one of the cores
abbrev pub invariant-loop-core : goal.invariant-loop-core
invariant-loop-core g l =
    let tip = g.T.Tip in
    record {
      undecided : tip.undecided l.tip ≡ tip.undecided l.fn.tip;
      decided : tip.decided l.tip ≡ tip.decided l.fn.tip;
      input : tip.input l.tip ≡ tip.input l.fn.tip;
      best : IfSome l.best (λ candidate. candidate.core < l.cores);
    }
