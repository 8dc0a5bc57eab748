use Rattle.std.proofs.Common.{cond, sym, ap, ◌∙◌}
use Rattle.apex_machine.specs.Deadlines.{deadline_by}
use Rattle.scheduling.proofs.caller.deadline_with.Goals as goal

pub returns-then-answers_no_error : goal.returns-then-answers_no_error
returns-then-answers_no_error c = λ process next_is.
    c.deadline_by.ensures process next_is
    ∙ sym (ap (λ test. cond test (deadline_by c.args.request.now c.args.now process) process.deadline) (sym c.answers_no_error.ensures ∙ c.if-answers_no_error.true))

pub returns-else-answers_no_error : goal.returns-else-answers_no_error
returns-else-answers_no_error c = λ process next_is.
    sym (ap (λ test. cond test (deadline_by c.args.request.now c.args.now process) process.deadline) (sym c.answers_no_error.ensures ∙ c.if-answers_no_error.false))
