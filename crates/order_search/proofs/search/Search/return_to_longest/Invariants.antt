use Rattle.std.proofs.Common.{◌≡◌, None}
use Rattle.order_search.specs.Agreement.{Spends}
use Rattle.order_search.proofs.search.Search.return_to_longest.Given as goal

-- the machine has taken what is placed, and nothing is decided; the search goes on, and its budget is at most spent
abbrev pub invariant-loop-index : goal.invariant-loop-index
invariant-loop-index g l =
    let tip = g.T.Tip in
    record {
      taken : tip.undecided l.tip ≡ l.self.placed.cores.items;
      decided : tip.decided l.tip ≡ tip.decided l.fn.tip;
      input : tip.input l.tip ≡ tip.input l.fn.tip;
      cores : l.self.placed.most ≡ l.fn.self.placed.most;
      unfinished : l.self.finished ≡ None;
      spends : Spends l.fn.self l.self;
    }
