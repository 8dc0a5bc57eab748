-- One of the deadlines that the table keeps is reached.
use Rattle.std.proofs.Common.{ap, ◌∙◌}
use Rattle.scheduling.specs.Firsts.{some_reached}
use Rattle.scheduling.proofs.Missed.{some_reached-missed}
use Rattle.scheduling.proofs.table.ProcTable.is_some_missed.Goals as goal

pub returns : goal.returns
returns c =
    rw (← c.self.view_is)
    (c.is_some_reached.ensures ∙ ap (some_reached c.args.core c.args.now) c.self.invariant.deadline_times ∙ some_reached-missed c.args.core c.args.now c.self.inside.processes.entries)
