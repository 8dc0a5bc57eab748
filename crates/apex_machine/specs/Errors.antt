-- Errors: what is done about the error of a process, the error handler that takes it, and the list of errors that the handler has still to
-- take.
use Rattle.std.specs.Prelude.{ℕ, List, [], ◌∷◌, ◌++◌, length, Option, Some, None, Bool, true, false, ℤ, pos, not, is_none, is_some, nat_eq, nat_lt, ◌&&◌, ◌||◌, option_map, if◌then◌else◌}
use Rattle.std.specs.Option.{option_map_or}
use Rattle.apex_types.specs.declared.code.Code.TheVariants as code
use Rattle.apex_types.specs.declared.error.ErrorCode.{ErrorCode}
use Rattle.apex_types.specs.declared.error.ErrorCode.TheVariants as error
use Rattle.apex_types.specs.declared.limits.TheConstants.{MOST_ERRORS}
use Rattle.apex_types.specs.declared.operation.{CallerOperation.CallerOperation, HealthOperation.HealthOperation}
use Rattle.apex_types.specs.declared.record.ErrorReport.{ErrorReport}
use Rattle.apex_types.specs.declared.record.Out.TheVariants as out
use Rattle.apex_types.specs.declared.request.Request.{Request}
use Rattle.apex_types.specs.declared.request.Request.TheVariants as request
use Rattle.apex_types.specs.Numbers.{error_number}
use Rattle.apex_machine.specs.declared.state.ErrorHandler.{ErrorHandler}
use Rattle.apex_machine.specs.declared.state.ErrorPolicy.{ErrorPolicy}
use Rattle.apex_machine.specs.declared.state.ErrorPolicy.TheVariants as policy
use Rattle.apex_machine.specs.declared.state.ListedError.{ListedError}
use Rattle.apex_machine.specs.declared.state.Mode.{Mode}
use Rattle.apex_machine.specs.declared.state.Mode.TheVariants as mode
use Rattle.apex_machine.specs.declared.state.Process.{Process}
use Rattle.apex_machine.specs.Answer.{Answer, Number, done, never}
use Rattle.apex_machine.specs.Arguments.{is_number, natural_of}
use Rattle.apex_machine.specs.Configuration.{Configuration, first_core, limits_of}
use Rattle.apex_machine.specs.State.{Partition, Table, is_handler, is_normal}

-- who takes an error

-- whether the error handler of a partition takes the errors of this process: the mode is NORMAL, a handler is created, and the process is
-- another   (health monitoring, section 2)
abbrev pub is_handled : Partition → ℕ → Bool
is_handled partition number = is_normal partition.mode && (is_some partition.handler && not (nat_eq number 0))

-- the mode in which a policy restarts a partition, if it does
abbrev pub restart_under : ErrorPolicy → Option Mode
restart_under policy.Ignore = None
restart_under policy.Idle = Some mode.Idle
restart_under policy.ColdStart = Some mode.ColdStart
restart_under policy.WarmStart = Some mode.WarmStart

-- what is done about an error of a partition that no handler takes
abbrev pub policy_of : Configuration → ℕ → ErrorPolicy
policy_of configuration number = option_map_or (λ limits. limits.on_error) (limits_of configuration number) policy.Ignore

-- the mode in which an error that no handler takes restarts a partition, if it does
abbrev pub error_mode : Configuration → ℕ → Option Mode
error_mode configuration number = restart_under (policy_of configuration number)

-- whether an error of this process restarts its partition
abbrev pub restarts_by_error : Configuration → ℕ → Partition → ℕ → Bool
restarts_by_error configuration number partition process = not (is_handled partition process) && is_some (error_mode configuration number)

-- processes

-- a process whose error the handler is to take is faulted
abbrev pub faulted : Process → Process
faulted process = record process { faulted = true }

-- the handler becomes ready on its core, unless it is ready
abbrev pub handler_started : ℕ → ErrorHandler → Process → Process
handler_started place handler process = if process.alive then process else record process { alive = true; affinity = handler.core; ready_position = place }

-- a process after an error of this process, which the handler takes: the one that has the error is faulted, and the handler becomes ready
abbrev pub handed_over : ℕ → ErrorHandler → ℕ → ℕ → Process → Process
handed_over place handler failed number process =
    if nat_eq number 0 then handler_started place handler process
    else if nat_eq number failed then faulted process
    else process

-- a process after an error of this process, which the partition's handler takes, if it has one and the error is not the handler's own
abbrev pub after_error : ℕ → Partition → ℕ → ℕ → Process → Process
after_error place partition failed number process =
    if is_handled partition failed
    then option_map_or (λ handler. handed_over place handler failed number process) partition.handler process
    else process

-- the list of errors

-- the list with one more error at its end; if the list is as long as it may be, the error is lost
abbrev pub listed : ListedError → List ListedError → List ListedError
listed error errors = if nat_lt (length errors) MOST_ERRORS then errors ++ error ∷ [] else errors

-- the errors after one more, which the partition's handler is to take, if it takes the errors of that process
abbrev pub listed_if_handled : Partition → ListedError → List ListedError
listed_if_handled partition error = if is_handled partition error.process then listed error partition.errors else partition.errors

-- whether an error is listed
abbrev pub is_some_listed : List ListedError → Bool
is_some_listed [] = false
is_some_listed (error ∷ errors) = true

-- whether an error of a process is in a list
abbrev pub has_error : ℕ → List ListedError → Bool
has_error number [] = false
has_error number (error ∷ errors) = nat_eq error.process number || has_error number errors

-- the list without its oldest error
abbrev pub without_oldest : List ListedError → List ListedError
without_oldest [] = []
without_oldest (error ∷ errors) = errors

-- GET_ERROR_STATUS: the number of the oldest error, its process and its message
abbrev pub oldest_reported : List ListedError → Answer
oldest_reported [] = done
oldest_reported (error ∷ errors) = record {
  out = out.Answer code.NoError;
  val = Number (pos (error_number error.error));
  val2 = Some (pos error.process);
  val3 = None;
  bytes = error.message;
  woken = [];
}

-- the end of the handler

-- whether this is the handler's STOP_SELF
abbrev pub ends_handler : Partition → ℕ → Request → Bool
ends_handler partition caller (request.Caller CallerOperation.StopSelf) = is_handler partition caller
ends_handler partition caller _ = false

-- whether the handler stays ready after this request of a process: it is its STOP_SELF, and errors are left
abbrev pub handles_more : Partition → ℕ → Request → Bool
handles_more partition caller asked = ends_handler partition caller asked && is_some_listed partition.errors

-- a faulted process after the handler's STOP_SELF: if no error of it is left, it is no longer faulted, and its place among the ready
-- processes is a new one
abbrev pub healed : ℕ → List ListedError → ℕ → Process → Process
healed place errors number process =
    if process.faulted && not (has_error number errors) then record process { faulted = false; ready_position = place } else process

-- requests

-- a process after a request that is done, as far as errors go: RAISE_APPLICATION_ERROR is an error of its caller, and the handler's STOP_SELF
-- ends its work on the errors that are no longer listed
abbrev pub error_set : ℕ → Partition → ℕ → Request → ℕ → Process → Process
error_set place partition caller (request.Health (HealthOperation.RaiseError given length message)) number process =
    after_error place partition caller number process
error_set place partition caller asked number process =
    if ends_handler partition caller asked then healed place partition.errors number process else process

-- the errors of a partition after a request that is done
abbrev pub errors_by : ℕ → Request → Partition → List ListedError
errors_by caller (request.Health (HealthOperation.RaiseError given length message)) partition =
    listed_if_handled partition (record { error = error.ApplicationError; process = caller; message = message })
errors_by caller (request.Health HealthOperation.GetErrorStatus) partition = without_oldest partition.errors
errors_by caller _ partition = partition.errors

-- the handler of the partition of this number after a request that is done: a created handler runs on the partition's first core, while the
-- other cores stand still, unless it is configured   (CREATE_ERROR_HANDLER, CONFIGURE_ERROR_HANDLER, section 3)
abbrev pub handler_by : Configuration → ℕ → Request → Option ErrorHandler → Option ErrorHandler
handler_by configuration number (request.Health HealthOperation.CreateHandler) before = Some (record { pauses = true; core = first_core configuration number })
handler_by configuration number (request.Health (HealthOperation.ConfigureHandler concurrency core)) before =
    Some (record { pauses = is_number concurrency 0; core = natural_of core })
handler_by configuration number _ before = before

-- what a request of the health monitor or the error handler gives its caller: RAISE_APPLICATION_ERROR does not return if it restarts the
-- partition   (health monitoring, section 3)
abbrev pub health_answer : Configuration → ℕ → Partition → ℕ → HealthOperation → Answer
health_answer configuration number partition caller (HealthOperation.RaiseError given length message) =
    if restarts_by_error configuration number partition caller then never else done
health_answer configuration number partition caller HealthOperation.GetErrorStatus = oldest_reported partition.errors
health_answer configuration number partition caller _ = done

-- records

-- the process of an error after the report of it: a missed deadline that is reported is taken away
abbrev pub deadline_after : ErrorCode → Process → Process
deadline_after error.DeadlineMissed process = record process { deadline = None }
deadline_after _ process = process

-- a process after the report of an error that does not restart its partition
abbrev pub reported : ℕ → Partition → ErrorReport → ℕ → Process → Process
reported place partition report number process =
    after_error place partition report.who.proc number
    (if nat_eq number report.who.proc then deadline_after report.error process else process)

-- the errors of a partition after the report of one that does not restart it
abbrev pub errors_after : Partition → ErrorReport → List ListedError
errors_after partition report = listed_if_handled partition (record { error = report.error; process = report.who.proc; message = [] })
