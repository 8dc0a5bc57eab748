-- What a call gives to the work of its caller.
use Rattle.std.proofs.Common.{◌≡◌, ℕ, ℤ, List, ◌++◌, refl}
use Rattle.apex_types.specs.declared.operation.{CallerOperation.CallerOperation}
use Rattle.apex_types.specs.declared.operation.CallerOperation.TheVariants as caller
use Rattle.apex_types.specs.declared.record.Call.{Call as CallRecord}
use Rattle.apex_types.specs.declared.request.Request.{Request}
use Rattle.apex_types.specs.declared.request.Request.TheVariants as request
use Rattle.apex_machine.specs.declared.state.Process.{Process}
use Rattle.run_numbers.specs.declared.observation.Observation.{Observation}
use Rattle.run_numbers.specs.Releases.{worked_by}
use Rattle.run_numbers.proofs.Added.{none_added}

-- no other call ends the work of its caller
pub no_work : (now : ℕ) (process : Process) (call : CallRecord) (asked : Request) (old : List Observation) → ((operation : CallerOperation) → asked ≡ request.Caller operation → ⊥)
    → old ≡ old ++ worked_by now process call asked
no_work now process call (request.Caller operation) old other = absurd (other operation refl)
no_work now process call asked old other = none_added old

-- no other operation of a caller does
pub no_end : (now : ℕ) (process : Process) (call : CallRecord) (operation : CallerOperation) (old : List Observation) → (operation ≡ caller.PeriodicWait → ⊥)
    → ((budget : ℤ) → operation ≡ caller.Replenish budget → ⊥) → (operation ≡ caller.StopSelf → ⊥) → old ≡ old ++ worked_by now process call (request.Caller operation)
no_end now process call caller.PeriodicWait old first second third = absurd (first refl)
no_end now process call (caller.Replenish budget) old first second third = absurd (second budget refl)
no_end now process call caller.StopSelf old first second third = absurd (third refl)
no_end now process call operation old first second third = none_added old

-- the ticks since the next release, by those since the last one
