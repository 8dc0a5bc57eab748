-- The numbers by which a view gives codes and outcomes, and a status the errors.
use Rattle.std.specs.Prelude.{ℕ}
use Rattle.apex_types.specs.declared.code.Code.{Code}
use Rattle.apex_types.specs.declared.code.Code.TheVariants as code
use Rattle.apex_types.specs.declared.error.ErrorCode.{ErrorCode}
use Rattle.apex_types.specs.declared.error.ErrorCode.TheVariants as error
use Rattle.apex_types.specs.declared.record.Out.{Out}
use Rattle.apex_types.specs.declared.record.Out.TheVariants as out

-- the number of a return code   (RETURN_CODE_TYPE, section 3)
abbrev pub code_number : Code → ℕ
code_number code.NoError = 0
code_number code.NoAction = 1
code_number code.NotAvailable = 2
code_number code.InvalidParam = 3
code_number code.InvalidConfig = 4
code_number code.InvalidMode = 5
code_number code.TimedOut = 6

-- the number of an outcome: its code, 7 for a call that waits, 8 for one that does not return
abbrev pub out_number : Out → ℕ
out_number (out.Answer code) = code_number code
out_number out.Waits = 7
out_number out.Never = 8

-- the number of an error   (ERROR_CODE_TYPE, section 3)
abbrev pub error_number : ErrorCode → ℕ
error_number error.DeadlineMissed = 0
error_number error.ApplicationError = 1
error_number error.NumericError = 2
error_number error.IllegalRequest = 3
error_number error.StackOverflow = 4
error_number error.MemoryViolation = 5
error_number error.HardwareFault = 6
error_number error.PowerFail = 7
