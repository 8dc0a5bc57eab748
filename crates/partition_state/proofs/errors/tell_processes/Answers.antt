-- A missed deadline is taken away, and then the handler takes the error, if it does.
use Rattle.std.proofs.Common.{◌≡◌, ap, sym, ◌∙◌}
use Rattle.apex_machine.specs.Errors.{deadline_after, reported}
use Rattle.scheduling.specs.Changes.{only, with_each}
use Rattle.partition_state.proofs.Takers.{deadline_goes, deadline_stays, error_left, error_taken}
use Rattle.partition_state.proofs.errors.tell_processes.Goals as goal
use Rattle.partition_state.proofs.errors.tell_processes.Goals.{in-DeadlineMissed, in_default}

pub returns-in-Some : goal.returns-in-Some
returns-in-Some c = λ partition same some none.
    let a = c.args in
    let report = a.report.now in
    let old = a.processes.now in
    let taken = rw c.in-Some.is at some in
    let middle : c.match-report.processes ≡ with_each (only report.who.proc (deadline_after report.error)) old = elim c.match-report.branch [
      | in-DeadlineMissed w ↦ deadline_goes report.error report.who.proc old c.match-report.processes w.in-DeadlineMissed.is (w.processes-is ∙ w.take_deadline.ensures)
      | in_default w ↦ w.processes-is ∙ deadline_stays report.error report.who.proc old w.in_default.not-DeadlineMissed
    ] in
    error_taken a.place partition report c.in-Some.handler old c.match-report.processes c.hand_over.new.self taken.0 taken.1 middle c.hand_over.ensures
    ∙ ap (with_each (reported a.place partition report)) (sym same)

pub returns-in_default-taker : goal.returns-in_default-taker
returns-in_default-taker c = λ partition same some none.
    let a = c.args in
    let report = a.report.now in
    let old = a.processes.now in
    let middle : c.match-report.processes ≡ with_each (only report.who.proc (deadline_after report.error)) old = elim c.match-report.branch [
      | in-DeadlineMissed w ↦ deadline_goes report.error report.who.proc old c.match-report.processes w.in-DeadlineMissed.is (w.processes-is ∙ w.take_deadline.ensures)
      | in_default w ↦ w.processes-is ∙ deadline_stays report.error report.who.proc old w.in_default.not-DeadlineMissed
    ] in
    error_left a.place partition report old c.match-report.processes (rw c.in_default-taker.is at none) middle
    ∙ ap (with_each (reported a.place partition report)) (sym same)
