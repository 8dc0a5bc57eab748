-- The name of each return code, as the records give it.
use Rattle.std.specs.Prelude.{ℕ, List, codes}
use Rattle.apex_types.specs.declared.code.Code.{Code}
use Rattle.apex_types.specs.declared.code.Code.TheVariants as code

-- the codes' names are those of RETURN_CODE_TYPE   (ARINC 653 Part 1, section 3)
abbrev pub name_of : Code → List ℕ
name_of code.NoError = codes "NO_ERROR"
name_of code.NoAction = codes "NO_ACTION"
name_of code.NotAvailable = codes "NOT_AVAILABLE"
name_of code.InvalidParam = codes "INVALID_PARAM"
name_of code.InvalidConfig = codes "INVALID_CONFIG"
name_of code.InvalidMode = codes "INVALID_MODE"
name_of code.TimedOut = codes "TIMED_OUT"
