-- Which calls are outside the profile, in sentences.
use Rattle.std.specs.Prelude.{◌≡◌, ◌↔◌, ℕ, ℤ, Option, Some, false}
use Rattle.apex_types.specs.declared.object_kind.ObjectKind.TheVariants as kind
use Rattle.apex_types.specs.declared.record.Who.{Who}
use Rattle.apex_types.specs.declared.operation.{CallerOperation.CallerOperation, ProcessOperation.ProcessOperation}
use Rattle.apex_types.specs.declared.request.Request.{Request}
use Rattle.apex_types.specs.declared.request.Request.TheVariants as request
use Rattle.apex_machine.specs.declared.state.Mode.TheVariants as mode
use Rattle.apex_machine.specs.declared.state.Process.{Process}
use Rattle.apex_machine.specs.declared.state.Wait.TheVariants as wait
use Rattle.apex_machine.specs.Arguments.{natural_of}
use Rattle.apex_machine.specs.Services.{in_profile}
use Rattle.apex_machine.specs.State.{Partition, item_at, set_at}
use Rattle.apex_laws.specs.ConditionSentences.{Owns}
use Rattle.apex_types.specs.declared.shape.End.{End}

-- a process owns a mutex
abbrev pub IsOwner : Partition → ℕ → Type 0
IsOwner partition process = (held : ℕ) × Owns partition process held

-- a process waits for a mutex
pub record AwaitsMutex (partition : Partition) (number : ℕ) : Type 0 where
  pub process : Process
  pub is_member : item_at partition.table number ≡ Some process
  pub mutex : ℕ
  pub end : End
  pub due : Option ℕ
  pub waits : process.wait ≡ wait.At (set_at kind.Mutex mutex end) due

-- a call is outside the profile, if no error condition holds for it
module _ (who : Who) (partition : Partition) where
  pub data IsOutsideProfile : Request → Type 0 where
    -- the stop of the owner of a mutex
    owner_is_stopped : {process : ℤ} → IsOwner partition (natural_of process) → IsOutsideProfile (request.Process process ProcessOperation.Stop)
    -- process 0 stops itself before NORMAL, as the initialising process, or the owner of a mutex stops itself
    initialising_stops : ¬ (partition.mode ≡ mode.Normal) → who.proc ≡ 0 → IsOutsideProfile (request.Caller CallerOperation.StopSelf)
    owner_stops : IsOwner partition who.proc → IsOutsideProfile (request.Caller CallerOperation.StopSelf)
    -- the owner of a mutex, or a process that waits for one, is suspended
    owner_is_suspended : {process : ℤ} → IsOwner partition (natural_of process) → IsOutsideProfile (request.Process process ProcessOperation.Suspend)
    waiter_is_suspended : {process : ℤ} → AwaitsMutex partition (natural_of process) → IsOutsideProfile (request.Process process ProcessOperation.Suspend)
    -- the owner of a mutex, or a process that waits for one, gets another priority
    owner_is_changed : {process priority : ℤ} → IsOwner partition (natural_of process) → IsOutsideProfile (request.Process process (ProcessOperation.SetPriority priority))
    waiter_is_changed : {process priority : ℤ} → AwaitsMutex partition (natural_of process) → IsOutsideProfile (request.Process process (ProcessOperation.SetPriority priority))

-- a call is outside the profile exactly if a sentence puts it there
abbrev pub ProfileIsTheSentence : Type 0
ProfileIsTheSentence =
    (who : Who) (partition : Partition) (asked : Request)
    → (in_profile who partition asked ≡ false) ↔ IsOutsideProfile who partition asked
