-- The text of an outcome, one line, whose numbers are decimal; and its exit status.
use Rattle.std.specs.Prelude.{ℕ, List, ◌++◌, Result, Ok, Err, codes, decimal}
use Rattle.apex_types.specs.declared.cause.Cause.{Cause}
use Rattle.apex_types.specs.declared.cause.Cause.TheVariants as cause
use Rattle.module_config.specs.declared.fault.ConfigFault.{ConfigFault}
use Rattle.module_config.specs.declared.fault.ConfigFault.TheVariants as config
use Rattle.order_cert.specs.declared.fault.CertFault.{CertFault}
use Rattle.order_cert.specs.declared.fault.CertFault.TheVariants as cert
use Rattle.order_cert.specs.declared.fault.OrderFault.{OrderFault}
use Rattle.order_cert.specs.declared.fault.OrderFault.TheVariants as order
use Rattle.placement.specs.declared.fault.InputFault.TheVariants as input
use Rattle.record_read.specs.declared.fault.RowFault.{RowFault}
use Rattle.record_read.specs.declared.fault.RowFault.TheVariants as row
use Rattle.verdict_merge.specs.declared.verdict.Verdict.{Verdict}
use Rattle.verdict_merge.specs.declared.verdict.Verdict.TheVariants.{Yes, No, Broken}
use Rattle.report.specs.declared.fault.ArgumentFault.{ArgumentFault}
use Rattle.report.specs.declared.fault.ArgumentFault.TheVariants as argument
use Rattle.report.specs.declared.fault.CheckFault.{CheckFault}
use Rattle.report.specs.declared.fault.CheckFault.TheVariants.{Arguments, Config, Input, Memory}

-- each cause and each fault by its name

-- the name of a cause
abbrev pub cause_name : Cause → List ℕ
cause_name cause.Names = codes "Names"
cause_name cause.Skew = codes "Skew"
cause_name cause.Idle = codes "Idle"
cause_name cause.Window = codes "Window"
cause_name cause.Deadline = codes "Deadline"
cause_name cause.Choice = codes "Choice"
cause_name cause.Return = codes "Return"
cause_name cause.OutsideProfile = codes "OutsideProfile"
cause_name cause.Prio = codes "Prio"
cause_name cause.Chan = codes "Chan"
cause_name cause.Out = codes "Out"
cause_name cause.Val = codes "Val"
cause_name cause.Data = codes "Data"
cause_name cause.Woken = codes "Woken"

-- the name of a fault of the arguments
abbrev pub argument_fault_name : ArgumentFault → List ℕ
argument_fault_name argument.NoWorkers = codes "NoWorkers"
argument_fault_name argument.TooManyWorkers = codes "TooManyWorkers"
argument_fault_name argument.NoDepth = codes "NoDepth"
argument_fault_name argument.TooDeep = codes "TooDeep"
argument_fault_name argument.ReaderCount = codes "ReaderCount"

-- the name of a fault of the configuration
abbrev pub config_fault_name : ConfigFault → List ℕ
config_fault_name config.NotToml = codes "NotToml"
config_fault_name config.Missing = codes "Missing"
config_fault_name config.WrongType = codes "WrongType"
config_fault_name config.OutOfRange = codes "OutOfRange"
config_fault_name config.TooMany = codes "TooMany"
config_fault_name config.Duplicate = codes "Duplicate"
config_fault_name config.CoreNotOfPartition = codes "CoreNotOfPartition"
config_fault_name config.Overlap = codes "Overlap"
config_fault_name config.ChannelEnds = codes "ChannelEnds"
config_fault_name config.Memory = codes "Memory"

-- the name of a fault of a row of the certificate
abbrev pub cert_fault_name : CertFault → List ℕ
cert_fault_name cert.Read = codes "Read"
cert_fault_name cert.Memory = codes "Memory"
cert_fault_name cert.TooMany = codes "TooMany"
cert_fault_name cert.FieldCount = codes "FieldCount"
cert_fault_name cert.BadNumber = codes "BadNumber"
cert_fault_name cert.Ended = codes "Ended"

-- the name of a fault of the order
abbrev pub order_fault_name : OrderFault → List ℕ
order_fault_name order.NoSuchCore = codes "NoSuchCore"
order_fault_name order.Skipped = codes "Skipped"
order_fault_name order.Repeated = codes "Repeated"
order_fault_name order.Absent = codes "Absent"
order_fault_name order.Missing = codes "Missing"

-- the name of a fault of a row of a recording
abbrev pub row_fault_name : RowFault → List ℕ
row_fault_name row.Read = codes "Read"
row_fault_name row.Memory = codes "Memory"
row_fault_name row.TooMany = codes "TooMany"
row_fault_name row.FieldCount = codes "FieldCount"
row_fault_name row.BadNumber = codes "BadNumber"
row_fault_name row.SeqGap = codes "SeqGap"
row_fault_name row.BadKind = codes "BadKind"
row_fault_name row.FieldNotForKind = codes "FieldNotForKind"
row_fault_name row.BadService = codes "BadService"
row_fault_name row.BadName = codes "BadName"
row_fault_name row.BadHex = codes "BadHex"
row_fault_name row.BadLength = codes "BadLength"
row_fault_name row.BadOut = codes "BadOut"
row_fault_name row.BadWoken = codes "BadWoken"
row_fault_name row.BadError = codes "BadError"
row_fault_name row.Ended = codes "Ended"

-- the line of an outcome
abbrev pub report_of : Result Verdict CheckFault → List ℕ
report_of (Ok (Yes records)) = codes "YES records=" ++ (decimal records ++ codes "\n")
report_of (Ok (No pos piece cause)) =
    codes "NO place=" ++ (decimal pos ++ (codes " piece=" ++ (decimal piece ++ (codes " cause=" ++ (cause_name cause ++ codes "\n")))))
report_of (Ok (Broken pos rule)) = codes "NO place=" ++ (decimal pos ++ (codes " rule=" ++ (decimal rule ++ codes "\n")))
report_of (Err (Arguments fault)) = codes "REFUSED arguments=" ++ (argument_fault_name fault ++ codes "\n")
report_of (Err (Config fault)) = codes "REFUSED config=" ++ (config_fault_name fault ++ codes "\n")
report_of (Err (Input (input.Cert place fault))) =
    codes "REFUSED cert place=" ++ (decimal place ++ (codes " fault=" ++ (cert_fault_name fault ++ codes "\n")))
report_of (Err (Input (input.Order place core fault))) =
    codes "REFUSED order place=" ++ (decimal place ++ (codes " core=" ++ (decimal core ++ (codes " fault=" ++ (order_fault_name fault ++ codes "\n")))))
report_of (Err (Input (input.Row core seq fault))) =
    codes "REFUSED row core=" ++ (decimal core ++ (codes " seq=" ++ (decimal seq ++ (codes " fault=" ++ (row_fault_name fault ++ codes "\n")))))
report_of (Err Memory) = codes "MEMORY\n"

-- 0 for a Yes, 1 for a No and a broken rule, 3 for a lack of memory, and 2 for every other refusal
abbrev pub outcome_status_of : Result Verdict CheckFault → ℕ
outcome_status_of (Ok (Yes records)) = 0
outcome_status_of (Ok (No pos piece cause)) = 1
outcome_status_of (Ok (Broken pos rule)) = 1
outcome_status_of (Err Memory) = 3
outcome_status_of (Err _) = 2
