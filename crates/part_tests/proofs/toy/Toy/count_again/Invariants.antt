use Rattle.std.proofs.Common.{◌≡◌}
use Rattle.part_tests.proofs.toy.Toy.count_again.Given as goal

-- nothing else changes
abbrev pub invariant-loop-index : goal.invariant-loop-index
invariant-loop-index l = record { history : l.self.history ≡ l.fn.self.history; decided : l.self.decided ≡ l.fn.self.decided }
