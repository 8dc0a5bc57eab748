use Rattle.record_read.specs.Woken.{left_of, named_by, pieces_of, processes_after}
use Rattle.std.proofs.Common.{None}
use Rattle.record_read.proofs.Pieces.{named_more, rising_all}
use Rattle.record_read.proofs.woken.copy_processes.Goals as goal

pub processes-preserved : goal.processes-preserved
processes-preserved c =
    rw c.in_ok-push.ensures.items
    (named_more (processes_after None (pieces_of 59 c.args.text.now)) c.processes.named.items (named_by c.processes.processes) (named_by c.next.new.self) c.in-Some.who
    c.in-Some.ensures.named c.processes.invariant)

pub returns-clause-rising : goal.returns-clause-rising
returns-clause-rising c =
    rising_all (pieces_of 59 c.args.text.now) c.processes.named.items (named_by c.processes.processes) (named_by c.next.new.self) (left_of c.next.new.self) c.requires
    c.in_default.ensures.none c.in_default.ensures.stops c.processes.invariant
