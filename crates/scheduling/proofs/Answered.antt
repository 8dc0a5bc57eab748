-- A caller to which an outcome is due after its call.
use Rattle.std.proofs.Common.{◌≡◌, ℕ, ◌&&◌, Option, Some, refl, if◌then◌else◌}
use Rattle.apex_types.specs.declared.record.Call.{Call as CallRecord}
use Rattle.apex_types.specs.declared.record.Out.{Out}
use Rattle.apex_types.specs.declared.record.Out.TheVariants as out
use Rattle.apex_machine.specs.declared.state.Outcome.{Outcome}
use Rattle.apex_machine.specs.declared.state.Process.{Process}
use Rattle.apex_machine.specs.Deadlines.{deadline_by}
use Rattle.apex_machine.specs.Processes.{caller_with, outcome_of, release_taken, renews}
use Rattle.apex_machine.specs.Waiting.{is_no_error}
use Rattle.scheduling.specs.Changes.{answered, given_or}
use Rattle.scheduling.specs.Prepared.{outcome_due}

-- a caller to which the outcome is due that becomes due to it
pub answered-settles : (place now : ℕ) (call : CallRecord) (left : Out) (process : Process) (outcome : Outcome) (renewed reached : Option ℕ) (deadline : Option (Option ℕ))
    → Some outcome ≡ outcome_due call left
    → given_or renewed process.ready_position ≡ (if renews call.request && is_no_error (out.Answer outcome.code) then place else process.ready_position)
    → given_or reached process.last_release ≡ (if is_no_error (out.Answer outcome.code) then release_taken call.request process else process.last_release)
    → given_or deadline process.deadline ≡ (if is_no_error (out.Answer outcome.code) then deadline_by call.request now process else process.deadline)
    → answered now renewed reached deadline outcome process ≡ record (caller_with place now call left process) { called_at = now }
answered-settles place now call (out.Answer code) process outcome renewed reached deadline is position release set =
    let same : outcome ≡ outcome_of call code = cc in
    let position_too = rw same at position in
    let release_too = rw same at release in
    let set_too = rw same at set in
    rw (position_too, release_too, set_too, same) refl
answered-settles place now call out.Waits process outcome renewed reached deadline is position release set = cc
answered-settles place now call out.Never process outcome renewed reached deadline is position release set = cc
