-- The caller is the process of its number, and the mutexes are those that are found.
use Rattle.std.proofs.Common.{rules}
use Rattle.apex_machine.specs.State.{item_at}
use Rattle.piece_check.proofs.Shown.{priority_shown}
use Rattle.piece_check.proofs.evidence.shown_priority.Goals as goal

pub returns-in-Some : goal.returns-in-Some
returns-in-Some c =
    priority_shown c.args.state.now.mutexes c.args.process c.args.recorded c.in-Some.caller.now (item_at c.args.state.now.table c.args.process) c.first_owned.result
    c.first_elsewhere.result (search rules) (search rules) (search rules)
