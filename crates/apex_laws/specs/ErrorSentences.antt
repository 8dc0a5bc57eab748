-- Errors, in sentences: who takes the error of a process, what becomes of the processes and of the list of errors, and the error handler.
use Rattle.std.specs.Prelude.{◌≡◌, ◌⊎◌, ℕ, ◌<◌, ◌≤◌, ℤ, pos, List, [], ◌∷◌, ◌++◌, length, Option, Some, None, true, false, IsTrue, IsFalse, Contains}
use Rattle.apex_types.specs.declared.code.Code.TheVariants as code
use Rattle.apex_types.specs.declared.error.ErrorCode.{ErrorCode}
use Rattle.apex_types.specs.declared.error.ErrorCode.TheVariants as error
use Rattle.apex_types.specs.declared.limits.TheConstants.{MOST_ERRORS}
use Rattle.apex_types.specs.declared.operation.{CallerOperation.CallerOperation, HealthOperation.HealthOperation}
use Rattle.apex_types.specs.declared.record.Out.TheVariants as out
use Rattle.apex_types.specs.declared.request.Request.{Request}
use Rattle.apex_types.specs.declared.request.Request.TheVariants as request
use Rattle.apex_types.specs.Numbers.{error_number}
use Rattle.apex_machine.specs.declared.state.ErrorHandler.{ErrorHandler}
use Rattle.apex_machine.specs.declared.state.ErrorPolicy.{ErrorPolicy}
use Rattle.apex_machine.specs.declared.state.ErrorPolicy.TheVariants as policy
use Rattle.apex_machine.specs.declared.state.ListedError.{ListedError}
use Rattle.apex_machine.specs.declared.state.Mode.{Mode}
use Rattle.apex_machine.specs.declared.state.Mode.TheVariants as mode
use Rattle.apex_machine.specs.declared.state.Process.{Process}
use Rattle.apex_machine.specs.Answer.{Answer, Number, done, never}
use Rattle.apex_machine.specs.Arguments.{natural_of}
use Rattle.apex_machine.specs.Configuration.{Configuration, PartitionLimits, first_core, limits_of}
use Rattle.apex_machine.specs.State.{Partition}

-- who takes an error

-- this handler of a partition takes the errors of a process: the mode is NORMAL, and the process is not process 0, which is the handler
pub record Takes (partition : Partition) (process : ℕ) (handler : ErrorHandler) : Type 0 where
  pub normal : partition.mode ≡ mode.Normal
  pub created : partition.handler ≡ Some handler
  pub other : ¬ (process ≡ 0)

-- no handler of a partition takes the errors of a process
abbrev pub NoneTakes : Partition → ℕ → Type 0
NoneTakes partition process = (handler : ErrorHandler) → ¬ Takes partition process handler

-- a policy restarts a partition in a mode
pub data RestartsIn : ErrorPolicy → Mode → Type 0 where
  to_idle : RestartsIn policy.Idle mode.Idle
  to_cold_start : RestartsIn policy.ColdStart mode.ColdStart
  to_warm_start : RestartsIn policy.WarmStart mode.WarmStart

-- an error that no handler takes restarts the partition of this number in a mode
pub record ErrorRestartsIn (configuration : Configuration) (number : ℕ) (entered : Mode) : Type 0 where
  pub limits : PartitionLimits
  pub of : limits_of configuration number ≡ Some limits
  pub mode : RestartsIn limits.on_error entered

-- an error of a process restarts its partition: no handler takes it, and the configuration gives a mode
abbrev pub IsRestartingError : Configuration → ℕ → Partition → ℕ → Type 0
IsRestartingError configuration number partition process = NoneTakes partition process × ((entered : Mode) × ErrorRestartsIn configuration number entered)

-- processes

-- the handler becomes ready on its core, if it is not ready yet
pub data IsHandlerStarted (place : ℕ) (handler : ErrorHandler) (old new : Process) : Type 0 where
  starts : IsFalse old.alive → new ≡ record old { alive = true; affinity = handler.core; ready_position = place } → IsHandlerStarted place handler old new
  is_ready : IsTrue old.alive → new ≡ old → IsHandlerStarted place handler old new

-- a process after an error of a process which the handler takes: process 0 is the handler, the process that has the error is faulted
pub data IsHandedOver (place : ℕ) (handler : ErrorHandler) (failed number : ℕ) (old new : Process) : Type 0 where
  is_handler : number ≡ 0 → IsHandlerStarted place handler old new → IsHandedOver place handler failed number old new
  is_faulted : ¬ (number ≡ 0) → number ≡ failed → new ≡ record old { faulted = true } → IsHandedOver place handler failed number old new
  is_another : ¬ (number ≡ 0) → ¬ (number ≡ failed) → new ≡ old → IsHandedOver place handler failed number old new

-- a process after an error of a process of its partition
pub data IsAfterError (place : ℕ) (partition : Partition) (failed number : ℕ) (old new : Process) : Type 0 where
  handled : (handler : ErrorHandler) → Takes partition failed handler → IsHandedOver place handler failed number old new → IsAfterError place partition failed number old new
  not_handled : NoneTakes partition failed → new ≡ old → IsAfterError place partition failed number old new

-- a faulted process after the handler's STOP_SELF: if no error of it is listed, it is not faulted any more, and its ready position is this
-- place
pub data IsHealed (place : ℕ) (errors : List ListedError) (number : ℕ) (old new : Process) : Type 0 where
  goes_on : IsTrue old.faulted → ((listed : ListedError) → Contains errors listed → ¬ (listed.process ≡ number))
      → new ≡ record old { faulted = false; ready_position = place } → IsHealed place errors number old new
  has_more : (listed : ListedError) → Contains errors listed → listed.process ≡ number → new ≡ old → IsHealed place errors number old new
  was_sound : IsFalse old.faulted → new ≡ old → IsHealed place errors number old new

-- this is the error handler's own request: in NORMAL, process 0 is the handler
pub record IsByHandler (partition : Partition) (caller : ℕ) : Type 0 where
  pub normal : partition.mode ≡ mode.Normal
  pub is : caller ≡ 0

-- what STOP_SELF sets in a process of its caller's partition: the handler's ends its work on the errors that are no longer listed
pub data IsSetByStop (place : ℕ) (partition : Partition) (caller number : ℕ) (old new : Process) : Type 0 where
  of_handler : IsByHandler partition caller → IsHealed place partition.errors number old new → IsSetByStop place partition caller number old new
  of_another : ¬ IsByHandler partition caller → new ≡ old → IsSetByStop place partition caller number old new

-- the handler stays ready after its STOP_SELF: errors are left
pub record HasMoreErrors (partition : Partition) (caller : ℕ) (asked : Request) : Type 0 where
  pub asks : asked ≡ request.Caller CallerOperation.StopSelf
  pub by_handler : IsByHandler partition caller
  pub left : ¬ (partition.errors ≡ [])

-- the list of errors

-- one more error at the end of the list, unless the list is full
pub data IsListed (error : ListedError) (old new : List ListedError) : Type 0 where
  enters : length old < MOST_ERRORS → new ≡ old ++ error ∷ [] → IsListed error old new
  is_lost : MOST_ERRORS ≤ length old → new ≡ old → IsListed error old new

-- the list after an error of a process
pub data IsListAfterError (partition : Partition) (listed : ListedError) (new : List ListedError) : Type 0 where
  handled : (handler : ErrorHandler) → Takes partition listed.process handler → IsListed listed partition.errors new → IsListAfterError partition listed new
  not_handled : NoneTakes partition listed.process → new ≡ partition.errors → IsListAfterError partition listed new

-- the list after a request that is done: RAISE_APPLICATION_ERROR is an error of its caller, GET_ERROR_STATUS takes the oldest, and any other
-- leaves the list
abbrev pub IsListAfter : ℕ → Request → Partition → List ListedError → Type 0
IsListAfter caller (request.Health (HealthOperation.RaiseError given length message)) partition new =
    IsListAfterError partition (record { error = error.ApplicationError; process = caller; message = message }) new
IsListAfter caller (request.Health HealthOperation.GetErrorStatus) partition new =
    ((oldest : ListedError) × (partition.errors ≡ oldest ∷ new)) ⊎ ((partition.errors ≡ []) × (new ≡ []))
IsListAfter caller _ partition new = new ≡ partition.errors

-- the handler

-- a concurrency is 0 if the other cores stand still while the handler is ready
abbrev pub IsConcurrency : ℤ → ErrorHandler → Type 0
IsConcurrency given handler = ((given ≡ pos 0) × IsTrue handler.pauses) ⊎ ((¬ (given ≡ pos 0)) × IsFalse handler.pauses)

-- the handler of the partition of this number after a request that is done: CREATE_ERROR_HANDLER makes one on the first core, for which the
-- other cores stand still; CONFIGURE_ERROR_HANDLER says both; any other leaves it
abbrev pub IsHandlerAfter : Configuration → ℕ → Request → Option ErrorHandler → Option ErrorHandler → Type 0
IsHandlerAfter configuration number (request.Health HealthOperation.CreateHandler) old new =
    (handler : ErrorHandler) × (new ≡ Some handler) × IsTrue handler.pauses × (handler.core ≡ first_core configuration number)
IsHandlerAfter configuration number (request.Health (HealthOperation.ConfigureHandler concurrency core)) old new =
    (handler : ErrorHandler) × (new ≡ Some handler) × IsConcurrency concurrency handler × (handler.core ≡ natural_of core)
IsHandlerAfter configuration number _ old new = new ≡ old

-- answers

-- RAISE_APPLICATION_ERROR does not return if the error restarts the partition
pub data IsRaising (configuration : Configuration) (number : ℕ) (partition : Partition) (caller : ℕ) (answer : Answer) : Type 0 where
  restarts : IsRestartingError configuration number partition caller → answer ≡ never → IsRaising configuration number partition caller answer
  goes_on : ¬ IsRestartingError configuration number partition caller → answer ≡ done → IsRaising configuration number partition caller answer

-- GET_ERROR_STATUS reports the oldest error: its number, its process and its message
pub data IsErrorStatus (errors : List ListedError) (answer : Answer) : Type 0 where
  oldest : (listed : ListedError) (others : List ListedError) → errors ≡ listed ∷ others
      → answer ≡ record { out = out.Answer code.NoError; val = Number (pos (error_number listed.error)); val2 = Some (pos listed.process); val3 = None; bytes = listed.message; woken = [] }
      → IsErrorStatus errors answer
  nothing : errors ≡ [] → answer ≡ done → IsErrorStatus errors answer

-- what the caller of a service of health monitoring gets, if no error condition holds
abbrev pub IsHealthAnswer : Configuration → ℕ → Partition → ℕ → HealthOperation → Answer → Type 0
IsHealthAnswer configuration number partition caller (HealthOperation.RaiseError given length message) answer = IsRaising configuration number partition caller answer
IsHealthAnswer configuration number partition caller HealthOperation.GetErrorStatus answer = IsErrorStatus partition.errors answer
IsHealthAnswer configuration number partition caller _ answer = answer ≡ done
