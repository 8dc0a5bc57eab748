-- A call that is carried out may end the work of its caller.
use Rattle.std.proofs.Common.{◌∙◌, ◌++◌, ap, sym}
use Rattle.apex_machine.specs.After.{is_done}
use Rattle.run_numbers.specs.Releases.{worked_by}
use Rattle.run_numbers.proofs.Given.{is_given}
use Rattle.run_numbers.proofs.Worked.{no_work}
use Rattle.run_numbers.proofs.releases.observe_work.Goals as goal

pub returns-in_default : goal.returns-in_default
returns-in_default c =
    let call = c.args.call.now in
    no_work c.args.now c.args.process.now call call.request c.args.observed.now.items c.in_default.not-Caller
    ∙ ap (λ list. c.args.observed.now.items ++ list) (is_given (is_done call.claim.out) (worked_by c.args.now c.args.process.now call call.request) (sym c.is_done.ensures ∙ c.if-not-is_done.false))
