-- The outcome, the ready position, the last release and the deadline of a caller to which an outcome is due.
use Rattle.std.proofs.Common.{sym, ◌∙◌}
use Rattle.scheduling.proofs.Answered.{answered-settles}
use Rattle.scheduling.proofs.caller.settling_of.Goals as goal

pub returns-in-Some : goal.returns-in-Some
returns-in-Some c = λ process next_is. rw c.if-handles_more.false
    (answered-settles c.args.place c.args.now c.args.call.now c.args.call.now.claim.out process c.in-Some.outcome c.renewed_by-renewed.result c.reached_by-reached.result c.deadline_with-deadline.result
    (sym c.in-Some.is ∙ c.requires.outcome) (c.renewed_by-renewed.ensures process.ready_position) (c.reached_by-reached.ensures process (λ asked. (next_is asked).time))
    (c.deadline_with-deadline.ensures process next_is))
