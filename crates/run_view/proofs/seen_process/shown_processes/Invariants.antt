use Rattle.std.proofs.Common.{◌≡◌, map, take}
use Rattle.run_view.specs.Processes.{shown_entry}
use Rattle.run_view.proofs.seen_process.shown_processes.Given as goal

abbrev pub invariant-loop-index : goal.invariant-loop-index
invariant-loop-index l = l.shown.items ≡ map shown_entry (take l.index l.state.table)
