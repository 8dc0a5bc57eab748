-- What a call makes of who is faulted.
use Rattle.std.specs.Prelude.{◌≡◌, ℕ, Bool, false}
use Rattle.apex_types.specs.declared.request.Request.{Request}
use Rattle.apex_machine.specs.declared.state.Process.{Process}
use Rattle.apex_machine.specs.Errors.{error_set, handed_over, healed, is_some_listed}
use Rattle.apex_machine.specs.State.{Partition}
use Rattle.scheduling.specs.declared.fault.FaultChange.{FaultChange}
use Rattle.scheduling.specs.declared.fault.FaultChange.TheVariants as change

-- a process after a change of who is faulted, by the caller of the call that makes it
abbrev pub fault_set : FaultChange → ℕ → ℕ → ℕ → Process → Process
fault_set change.Unchanged place caller number process = process
fault_set (change.Raises handler) place caller number process = handed_over place handler caller number process
fault_set (change.Ends left) place caller number process = healed place left.now number process

-- whether a change leaves its caller ready: the caller is the handler, and has more errors to take
abbrev pub leaves_ready : FaultChange → Bool
leaves_ready (change.Ends left) = is_some_listed left.now
leaves_ready _ = false

-- a change is what a request of this caller that is done makes of who is faulted in its partition
abbrev pub IsFaultChangeOf : Partition → ℕ → Request → FaultChange → Type 0
IsFaultChangeOf partition caller asked made =
    (place number : ℕ) (process : Process) → error_set place partition caller asked number process ≡ fault_set made place caller number process
