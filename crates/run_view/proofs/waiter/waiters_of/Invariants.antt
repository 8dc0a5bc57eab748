use Rattle.std.proofs.Common.{◌≡◌, ◌-◌, ◌++◌, length}
use Rattle.run_view.specs.Waiters.{first_in_turn, in_turn}
use Rattle.run_view.proofs.waiter.waiters_of.Given as goal

abbrev pub invariant-waiters : goal.invariant-waiters
invariant-waiters l = record {
  discipline : l.left.discipline ≡ l.set.discipline;
  shown : l.waiters.items ++ first_in_turn (length l.set.entries - l._turn) l.set.discipline l.left.entries ≡ in_turn l.set;
}
