use Rattle.std.proofs.Common.{◌≡◌, ◌++◌, take}
use Rattle.run_numbers.specs.Run.{observed_before}
use Rattle.run_numbers.proofs.numbers.observe_met.Given as goal

abbrev pub invariant-loop-piece : goal.invariant-loop-piece
invariant-loop-piece l = l.observed.items ≡ l.fn.observed.items ++ observed_before l.config (take l.piece-index l.pieces) l.ordered
