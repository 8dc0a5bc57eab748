-- The name of each error, as the records give it.
use Rattle.std.specs.Prelude.{ℕ, List, codes}
use Rattle.apex_types.specs.declared.error.ErrorCode.{ErrorCode}
use Rattle.apex_types.specs.declared.error.ErrorCode.TheVariants as error

-- the errors' names are those of ERROR_CODE_TYPE   (ARINC 653 Part 1, section 3)
abbrev pub name_of : ErrorCode → List ℕ
name_of error.DeadlineMissed = codes "DEADLINE_MISSED"
name_of error.ApplicationError = codes "APPLICATION_ERROR"
name_of error.NumericError = codes "NUMERIC_ERROR"
name_of error.IllegalRequest = codes "ILLEGAL_REQUEST"
name_of error.StackOverflow = codes "STACK_OVERFLOW"
name_of error.MemoryViolation = codes "MEMORY_VIOLATION"
name_of error.HardwareFault = codes "HARDWARE_FAULT"
name_of error.PowerFail = codes "POWER_FAIL"
