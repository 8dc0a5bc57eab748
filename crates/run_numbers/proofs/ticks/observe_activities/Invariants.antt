use Rattle.std.proofs.Common.{◌≡◌, ◌++◌, take}
use Rattle.std.specs.List.{flat_map}
use Rattle.run_numbers.specs.Activities.{spent}
use Rattle.run_numbers.proofs.ticks.observe_activities.Given as goal

abbrev pub invariant-loop-index : goal.invariant-loop-index
invariant-loop-index l = l.observed.items ≡ l.fn.observed.items ++ flat_map (spent l.part l.clock.cores l.core) (take l.index l.state.table)
