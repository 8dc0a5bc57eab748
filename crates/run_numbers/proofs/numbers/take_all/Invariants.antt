use Rattle.std.proofs.Common.{take}
use Rattle.run_numbers.proofs.Taking.{AreAfter}
use Rattle.run_numbers.proofs.numbers.take_all.Given as goal

abbrev pub invariant-loop-observation : goal.invariant-loop-observation
invariant-loop-observation l = AreAfter l.place (take l.observation-index l.observed) l.fn.tallies l.tallies
