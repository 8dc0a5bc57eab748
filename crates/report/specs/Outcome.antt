-- The outcome of a check, from its texts and how far they are read.
use Rattle.std.specs.Prelude.{◌≡◌, ◌≢◌, ◌⊎◌, ◌↔◌, ℕ, Bool, true, false, Option, Some, None, Result, Ok, Err, length, nat_eq, nat_lt, if◌then◌else◌}
use Rattle.std.specs.Option.{option_or}
use Rattle.apex_types.specs.declared.limits.TheConstants.{GREATEST_DEPTH, MOST_WORKERS}
use Rattle.apex_machine.specs.Configuration.{Configuration}
use Rattle.module_config.specs.declared.fault.ConfigFault.{ConfigFault}
use Rattle.module_config.specs.declared.fault.ConfigFault.TheVariants as config
use Rattle.module_config.specs.Reading.{configuration_of}
use Rattle.order_cert.specs.declared.fault.CertFault.TheVariants as cert
use Rattle.placement.specs.declared.fault.InputFault.{InputFault}
use Rattle.placement.specs.declared.fault.InputFault.TheVariants as input
use Rattle.placement.specs.Scan.{Scan}
use Rattle.record_read.specs.declared.fault.RowFault.TheVariants as row
use Rattle.user_rules.specs.Remembered.{Requirements}
use Rattle.verdict_merge.specs.declared.verdict.Verdict.{Verdict}
use Rattle.verdict_merge.specs.declared.verdict.Verdict.TheVariants.{Yes}
use Rattle.verdict_merge.specs.Verdicts.{IsVerdict}
use Rattle.report.specs.declared.fault.ArgumentFault.{ArgumentFault}
use Rattle.report.specs.declared.fault.ArgumentFault.TheVariants.{NoWorkers, TooManyWorkers, NoDepth, TooDeep, ReaderCount}
use Rattle.report.specs.declared.fault.CheckFault.{CheckFault}
use Rattle.report.specs.declared.fault.CheckFault.TheVariants.{Arguments, Config, Input, Memory}
use Rattle.report.specs.declared.settings.Settings.{Settings}
use Rattle.report.specs.Inputs.{Readings, Texts, scan_of, whole}

-- the refusal that a fault of the configuration means; a lack of memory is the check's own
abbrev pub config_refusal_of : ConfigFault → CheckFault
config_refusal_of config.Memory = Memory
config_refusal_of fault = Config fault

-- a No and a broken rule are at a place before the end of the input, so they decide; a Yes needs an input without a fault
abbrev pub answer_with : Verdict → Result (Unit {0}) InputFault → Result Verdict CheckFault
answer_with (Yes records) (Err fault) = Err (Input fault)
answer_with verdict end = Ok verdict

-- the records that were placed are judged, and the input's end with them
abbrev pub IsJudged : Configuration → Requirements → Scan → Result Verdict CheckFault → Type 0
IsJudged configuration requirements scanned result =
    (verdict : Verdict) × IsVerdict configuration requirements scanned.placed verdict × (result ≡ answer_with verdict scanned.end)

-- the outcome under a configuration, which requires one recording for each core
abbrev pub IsOutcomeUnder : Bool → Configuration → Texts → Readings → Requirements → Result Verdict CheckFault → Type 0
IsOutcomeUnder false configuration texts readings requirements result = result ≡ Err (Arguments ReaderCount)
IsOutcomeUnder true configuration texts readings requirements result = IsJudged configuration requirements (scan_of texts readings) result

-- the outcome of these texts, by what the text of the configuration is
abbrev pub IsOutcomeBy : Result Configuration ConfigFault → Texts → Readings → Requirements → Result Verdict CheckFault → Type 0
IsOutcomeBy (Err fault) texts readings requirements result = result ≡ Err (Config fault)
IsOutcomeBy (Ok configuration) texts readings requirements result =
    IsOutcomeUnder (nat_eq (length texts.recordings) configuration.cores) configuration texts readings requirements result

-- what is wrong with a number that must be from 1 to this maximum: it is 0, or above the maximum
abbrev pub range_fault_of : ℕ → ArgumentFault → ArgumentFault → ℕ → Option ArgumentFault
range_fault_of most none too_many number = if nat_eq number 0 then Some none else if nat_lt most number then Some too_many else None

-- what is wrong with the settings of a check, the workers first: from 1 to the most may judge, and from 1 record of a core to the
-- greatest depth may be read ahead
abbrev pub argument_fault_of : Settings → Option ArgumentFault
argument_fault_of settings =
    option_or (range_fault_of MOST_WORKERS NoWorkers TooManyWorkers settings.workers) (range_fault_of GREATEST_DEPTH NoDepth TooDeep settings.depth)

-- the outcome of these texts, by what is wrong with the settings: if nothing is wrong, it is the same for all settings
abbrev pub IsOutcomeWith : Option ArgumentFault → Texts → Readings → Requirements → Result Verdict CheckFault → Type 0
IsOutcomeWith (Some fault) texts readings requirements result = result ≡ Err (Arguments fault)
IsOutcomeWith None texts readings requirements result = IsOutcomeBy (configuration_of texts.config) texts readings requirements result

-- the outcome of a check with these settings, of these texts as far as they are read, and of the rules' requirements; a lack of memory outranks it
abbrev pub IsOutcome : Settings → Texts → Readings → Requirements → Result Verdict CheckFault → Type 0
IsOutcome settings texts readings requirements result =
    (result ≡ Err Memory) ⊎ IsOutcomeWith (argument_fault_of settings) texts readings requirements result

-- the laws

-- one worker, and one record of a core read ahead
abbrev pub one_by_one : Settings
one_by_one = record { workers = 1; depth = 1 }

-- for all settings with which nothing is wrong, the outcomes are those of one worker
abbrev pub SettingsChangeNoOutcome : Type 0
SettingsChangeNoOutcome =
    (settings : Settings) (texts : Texts) (readings : Readings) (requirements : Requirements) (result : Result Verdict CheckFault)
    → argument_fault_of settings ≡ None
    → IsOutcome settings texts readings requirements result ↔ IsOutcome one_by_one texts readings requirements result

-- for the same texts, readings and requirements there is one outcome, a lack of memory aside, for all settings that are refused alike or not at all
abbrev pub OneOutcome : Type 0
OneOutcome =
    (some others : Settings) (texts : Texts) (readings : Readings) (requirements : Requirements) (one other : Result Verdict CheckFault)
    → argument_fault_of some ≡ argument_fault_of others
    → IsOutcome some texts readings requirements one → IsOutcome others texts readings requirements other
    → one ≢ Err Memory → other ≢ Err Memory → one ≡ other

-- this is no failure of a reader
abbrev pub TellsNoFailure : Result Verdict CheckFault → Type 0
TellsNoFailure (Err (Input (input.Cert place fault))) = fault ≢ cert.Read
TellsNoFailure (Err (Input (input.Row core seq fault))) = fault ≢ row.Read
TellsNoFailure _ = Unit {0}

-- if no reader failed, no outcome is a reader's failure
abbrev pub WholeReadingsTellNoFailure : Type 0
WholeReadingsTellNoFailure =
    (settings : Settings) (texts : Texts) (requirements : Requirements) (result : Result Verdict CheckFault)
    → IsOutcome settings texts whole requirements result → TellsNoFailure result
