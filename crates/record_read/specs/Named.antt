-- What rows give by name: kinds of rows, services, codes, outcomes and errors.
use Rattle.std.specs.Prelude.{ℕ, List, [], ◌∷◌, Bool, true, false, Option, Some, None, Result, Ok, Err, codes, length, map, nat_le, option_and_then, option_map, if◌then◌else◌}
use Rattle.std.specs.List.{find}
use Rattle.std.specs.Str.{bytes_eq}
use Rattle.apex_types.specs.declared.code.Code.{Code}
use Rattle.apex_types.specs.declared.code.Code.TheVariants as code
use Rattle.apex_types.specs.declared.service.Service.{Service}
use Rattle.apex_types.specs.declared.service.ServiceRow.{ServiceRow}
use Rattle.apex_types.specs.declared.service.TheConstants.{SERVICES}
use Rattle.apex_types.specs.declared.record.Out.{Out}
use Rattle.apex_types.specs.declared.record.Out.TheVariants as out
use Rattle.apex_types.specs.CodeName as CodeName
use Rattle.apex_types.specs.ErrorName as ErrorName
use Rattle.apex_types.specs.declared.error.ErrorCode.{ErrorCode}
use Rattle.apex_types.specs.declared.error.ErrorCode.TheVariants as error
use Rattle.apex_types.specs.declared.format.Format.{Format}
use Rattle.apex_types.specs.declared.format.Format.TheVariants as format
use Rattle.apex_types.specs.Format.{format_number}
use Rattle.record_read.specs.declared.kind.Kind.{Kind}
use Rattle.record_read.specs.declared.kind.Kind.TheVariants as kind
use Rattle.record_read.specs.declared.fault.RowFault.{RowFault}
use Rattle.record_read.specs.declared.fault.RowFault.TheVariants.{BadError, BadKind, BadService, BadOut}
use Rattle.apex_types.specs.Services.{is_in}
use Rattle.record_read.specs.Field.{filled}

-- the name of each kind of rows
abbrev pub kind_name : Kind → List ℕ
kind_name kind.Call = codes "call"
kind_name kind.Ret = codes "ret"
kind_name kind.Disp = codes "disp"
kind_name kind.Tick = codes "tick"
kind_name kind.Arrive = codes "arrive"
kind_name kind.Depart = codes "depart"
kind_name kind.Error = codes "err"

-- the first format of recordings that has a kind of rows
abbrev pub kind_since : Kind → Format
kind_since kind.Arrive = format.Three
kind_since kind.Depart = format.Three
kind_since kind.Error = format.Three
kind_since _ = format.One

-- whether a format has a kind of rows
abbrev pub has_kind : Format → Kind → Bool
has_kind format kind = nat_le (format_number (kind_since kind)) (format_number format)

-- the kinds of rows are `call`, `ret`, `disp`, `tick`, `arrive`, `depart` and `err`
unfoldable pub kind_named : List ℕ → Option Kind
kind_named text =
    if bytes_eq text (codes "call") then Some kind.Call
    else if bytes_eq text (codes "ret") then Some kind.Ret
    else if bytes_eq text (codes "disp") then Some kind.Disp
    else if bytes_eq text (codes "tick") then Some kind.Tick
    else if bytes_eq text (codes "arrive") then Some kind.Arrive
    else if bytes_eq text (codes "depart") then Some kind.Depart
    else if bytes_eq text (codes "err") then Some kind.Error
    else None

-- the codes   (RETURN_CODE_TYPE, section 3)
abbrev pub all_codes : List Code
all_codes = code.NoError ∷ code.NoAction ∷ code.NotAvailable ∷ code.InvalidParam ∷ code.InvalidConfig ∷ code.InvalidMode ∷ code.TimedOut ∷ []

-- the code of this name
abbrev pub code_named : List ℕ → Option Code
code_named text = find (λ c. bytes_eq (CodeName.name_of c) text) all_codes

-- the errors that a row can report: APPLICATION_ERROR is raised by a call
abbrev pub all_errors : List ErrorCode
all_errors =
    error.DeadlineMissed ∷ error.NumericError ∷ error.IllegalRequest ∷ error.StackOverflow ∷ error.MemoryViolation ∷ error.HardwareFault ∷ error.PowerFail ∷ []

-- the error of this name
abbrev pub error_named : List ℕ → Option ErrorCode
error_named text = find (λ one. bytes_eq (ErrorName.name_of one) text) all_errors

-- the service of the first of these rows that has this name
unfoldable pub service_among : {Name : Type 0} → (Name → List ℕ) → List (ServiceRow Name) → List ℕ → Option Service
service_among text_of [] text = None
service_among text_of (row ∷ rows) text = if bytes_eq (text_of row.name) text then Some row.service else service_among text_of rows text

-- the service of this name
unfoldable pub service_named : List ℕ → Option Service
service_named text = service_among (λ name. name.now) SERVICES text

-- the lengths of the services' names
abbrev pub name_lengths : List ℕ
name_lengths = map (λ row. length row.name.now) SERVICES

-- the kind of this name, if the format has it
unfoldable pub kind_in : Format → List ℕ → Option Kind
kind_in format text = option_and_then (λ kind. if has_kind format kind then Some kind else None) (kind_named text)

-- a kind of the format, which must be filled
unfoldable pub kind_of : Format → List ℕ → Result Kind RowFault
kind_of format text = filled BadKind (kind_in format text) text

-- the service of this name, if the format has it
unfoldable pub service_in : Format → List ℕ → Option Service
service_in format text = option_and_then (λ service. if is_in format service then Some service else None) (service_named text)

-- a service of the format, which must be filled
unfoldable pub service_of : Format → List ℕ → Result Service RowFault
service_of format text = filled BadService (service_in format text) text

-- a code, which must be filled
unfoldable pub code_of : List ℕ → Result Code RowFault
code_of text = filled BadOut (code_named text) text

-- `wait`, `none` or the name of a code
unfoldable pub out_named : List ℕ → Option Out
out_named text =
    if bytes_eq text (codes "wait") then Some out.Waits
    else if bytes_eq text (codes "none") then Some out.Never
    else option_map out.Answer (code_named text)

-- an outcome, which must be filled
unfoldable pub out_of : List ℕ → Result Out RowFault
out_of text = filled BadOut (out_named text) text

-- an error, which must be filled
unfoldable pub error_of : List ℕ → Result ErrorCode RowFault
error_of text = filled BadError (error_named text) text

-- whether an error restarts its partition: `none`, or else an empty field
unfoldable pub restart_of : List ℕ → Result Bool RowFault
restart_of [] = Ok false
restart_of (b ∷ bs) = if bytes_eq (b ∷ bs) (codes "none") then Ok true else Err BadOut
