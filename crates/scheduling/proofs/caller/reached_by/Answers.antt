use Rattle.std.proofs.Common.{sym, ◌∙◌}
use Rattle.apex_types.specs.declared.record.Out.TheVariants as out
use Rattle.apex_machine.specs.Waiting.{is_no_error}
use Rattle.scheduling.proofs.Periodic.{none_reached, one_reached}
use Rattle.scheduling.proofs.caller.reached_by.Goals as goal

pub returns-then-takes_release : goal.returns-then-takes_release
returns-then-takes_release c = λ process next_is.
    one_reached c.args.request.now (is_no_error (out.Answer c.args.code)) process c.args.next (sym c.takes_release.ensures ∙ c.if-takes_release.true) next_is

pub returns-else-takes_release : goal.returns-else-takes_release
returns-else-takes_release c = λ process next_is.
    none_reached c.args.request.now (is_no_error (out.Answer c.args.code)) process (sym c.takes_release.ensures ∙ c.if-takes_release.false)
