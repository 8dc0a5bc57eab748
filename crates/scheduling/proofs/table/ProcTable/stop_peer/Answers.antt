-- Only STOP that answers NO_ERROR stops another process.
use Rattle.std.proofs.Common.{◌≡◌, ap, pos, Some, sym, ◌∙◌, rules, arith, FitsSigned, w64}
use Rattle.std.proofs.lemmas.Int.{ints}
use Rattle.scheduling.proofs.Called.{stopped-none, stops-itself, stops-nobody, stops-not}
use Rattle.scheduling.proofs.table.ProcTable.stop_peer.Goals as goal
use Rattle.scheduling.proofs.table.ProcTable.stop_peer.Goals.{else-answers_no_error-via-then-answers_no_error+else-target-number, else-answers_no_error-via-else-answers_no_error}

pub returns-else-answers_no_error : goal.returns-else-answers_no_error
returns-else-answers_no_error c =
    let call = c.args.call.now in
    elim c.else-answers_no_error.branch [
      | else-answers_no_error-via-then-answers_no_error+else-target-number w ↦
          let fits : FitsSigned w64 c.in-Some.target = search rules in
          let same : c.in-Some.target ≡ pos w.number.result = first_of (omega (arith, ints), grind (arith, ints)) in
          stopped-none call c.args.self.now (stops-itself call (sym c.stop_of.ensures ∙ c.in-Some.is ∙ ap Some (same ∙ ap pos w.number.ensures)))
      | else-answers_no_error-via-else-answers_no_error w ↦
          stopped-none call c.args.self.now (stops-not call (sym c.answers_no_error.ensures ∙ w.if-answers_no_error.false))
    ]

pub returns-in_default : goal.returns-in_default
returns-in_default c = stopped-none c.args.call.now c.args.self.now (stops-nobody c.args.call.now (sym c.stop_of.ensures ∙ c.in_default.is))
