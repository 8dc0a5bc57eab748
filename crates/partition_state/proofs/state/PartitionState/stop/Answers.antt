-- The process that leaves has its entry where it waits.
use Rattle.partition_state.proofs.Leavers.{stopped_distinct, stopped_where}
use Rattle.partition_state.proofs.state.PartitionState.stop.Goals as goal

pub leave-requires-clause-objects : goal.leave-requires-clause-objects
leave-requires-clause-objects c =
    let at_work = rw (← c.self.view_is) at c.requires.at_work in
    stopped_distinct c.args.place _ c.args.call.now.who c.stop.new.self at_work

pub leave-requires-clause-alone : goal.leave-requires-clause-alone
leave-requires-clause-alone c =
    let at_work = rw (← c.self.view_is) at c.requires.at_work in
    stopped_where c.args.place _ c.args.call.now.who c.in-Some.proc c.stop.new.self at_work
