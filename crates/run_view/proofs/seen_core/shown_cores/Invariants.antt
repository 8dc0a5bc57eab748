use Rattle.std.proofs.Common.{◌≡◌, map}
use Rattle.std.specs.List.{range_with_len}
use Rattle.run_view.specs.Cores.{shown_core}
use Rattle.run_view.proofs.seen_core.shown_cores.Given as goal

abbrev pub invariant-loop-number : goal.invariant-loop-number
invariant-loop-number l = l.shown.items ≡ map (shown_core l.config l.clock.cores) (range_with_len 0 l.number)
