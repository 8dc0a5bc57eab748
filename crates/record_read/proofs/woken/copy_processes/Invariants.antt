use Rattle.std.proofs.Common.{None}
use Rattle.record_read.specs.Woken.{length_left, named_by, pieces_of, processes_after}
use Rattle.record_read.proofs.Pieces.{Named}
use Rattle.record_read.proofs.woken.copy_processes.Given as goal

abbrev pub invariant-processes : goal.invariant-processes
invariant-processes l = Named (processes_after None (pieces_of 59 l.text)) l.named.items (named_by l.processes)

abbrev pub decreases-processes : goal.decreases-processes
decreases-processes l = length_left l.processes
