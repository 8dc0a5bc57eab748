use Rattle.std.proofs.Common.{◌≡◌}
use Rattle.order_search.specs.Agreement.{Agrees}
use Rattle.part_tests.proofs.orders.proposed.Given as goal

-- the machine has taken what is placed
abbrev pub invariant-loop : goal.invariant-loop
invariant-loop g l =
    let tip = g.T.Tip in
    Agrees l.search (tip.undecided l.tip)
