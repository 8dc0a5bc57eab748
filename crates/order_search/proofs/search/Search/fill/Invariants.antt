use Rattle.std.proofs.Common.{◌≡◌}
use Rattle.order_search.specs.Agreement.{Agrees}
use Rattle.order_search.proofs.search.Search.fill.Given as goal

-- the machine has taken what is placed, and nothing is decided
abbrev pub invariant-loop : goal.invariant-loop
invariant-loop g l =
    let tip = g.T.Tip in
    record {
      agrees : Agrees l.self (tip.undecided l.tip);
      decided : tip.decided l.tip ≡ tip.decided l.fn.tip;
      input : tip.input l.tip ≡ tip.input l.fn.tip;
      cores : l.self.placed.most ≡ l.fn.self.placed.most;
    }
