use Rattle.std.proofs.Common.{◌≡◌}
use Rattle.order_search.proofs.placed.Placed.give_back.Given as goal

-- nothing else changes
abbrev pub invariant-loop-index : goal.invariant-loop-index
invariant-loop-index l = record { placed : l.self.cores ≡ l.fn.self.cores; most : l.self.most ≡ l.fn.self.most }
