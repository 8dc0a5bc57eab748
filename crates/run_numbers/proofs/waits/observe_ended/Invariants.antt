use Rattle.std.proofs.Common.{◌≡◌, ◌++◌, take}
use Rattle.std.specs.List.{flat_map}
use Rattle.run_numbers.specs.Waits.{ended_of}
use Rattle.run_numbers.proofs.waits.observe_ended.Given as goal

abbrev pub invariant-loop-who : goal.invariant-loop-who
invariant-loop-who l =
    l.observed.items ≡ l.fn.observed.items ++ flat_map (ended_of l.moment.part l.moment.clock.now.cores l.moment.state.now l.moment.is_tick) (take l.who-index l.woken)
