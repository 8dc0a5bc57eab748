-- The list of errors changes, and then the processes.
use Rattle.std.proofs.Common.{ap, sym, ◌∙◌}
use Rattle.scheduling.specs.Processes.{processes_of}
use Rattle.partition_state.proofs.Takers.{is_told}
use Rattle.partition_state.proofs.state.PartitionState.note_error.Goals as goal

pub returns-clause-ok : goal.returns-clause-ok
returns-clause-ok c =
    let a = c.args in
    let listed = c.self.view_is ∙ c.in_ok-list.ensures.ok in
    is_told a.place a.self.now _ a.report.now _ _ c.empty.ensures listed
    (c.tell_processes.ensures a.self.now (sym (ap processes_of listed)) c.taker-taker.ensures.some c.taker-taker.ensures.none)
