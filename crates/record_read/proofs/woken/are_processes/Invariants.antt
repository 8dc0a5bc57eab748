use Rattle.std.proofs.Common.{◌≡◌, None}
use Rattle.std.specs.Prelude.{is_some}
use Rattle.record_read.specs.Woken.{length_left, named_by, pieces_of, processes_after}
use Rattle.record_read.proofs.woken.are_processes.Given as goal

-- the text is a list if what is left of it is
abbrev pub invariant-processes : goal.invariant-processes
invariant-processes l = is_some (processes_after None (pieces_of 59 l.text)) ≡ is_some (named_by l.processes)

abbrev pub decreases-processes : goal.decreases-processes
decreases-processes l = length_left l.processes
