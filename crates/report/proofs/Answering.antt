-- What is said of the answers of a check, by how it ended.
use Rattle.std.proofs.Common.{◌≡◌, ◌≢◌, ◌⊎◌, List, [], Some, None, Result, Ok, Err, length, refl, sym, ap, subst, inl, inr}
use Rattle.apex_machine.specs.Configuration.{Configuration}
use Rattle.module_config.specs.declared.fault.ConfigFault.{ConfigFault}
use Rattle.module_config.specs.declared.fault.ConfigFault.TheVariants as config
use Rattle.module_config.specs.Reading.{configuration_of}
use Rattle.order_cert.specs.Kept.{none_taken}
use Rattle.order_cert.specs.Row.{pairs_of}
use Rattle.placement.specs.declared.fault.InputFault.{InputFault}
use Rattle.placement.specs.Lanes.{IsScanOf}
use Rattle.placement.specs.Reading.{CanFail}
use Rattle.placement.specs.Scan.{Scan}
use Rattle.user_rules.specs.Remembered.{Requirements}
use Rattle.placement.proofs.Refusal.{refused_at_first}
use Rattle.verdict_merge.specs.declared.verdict.Verdict.{Verdict}
use Rattle.verdict_merge.specs.declared.verdict.Verdict.TheVariants.{Yes, No, Broken}
use Rattle.verdict_merge.specs.Refusals.{IsRunUpToNo}
use Rattle.verdict_merge.specs.Verdicts.{IsRunWhereYes, IsVerdict}
use Rattle.report.specs.declared.fault.ArgumentFault.{ArgumentFault}
use Rattle.report.specs.declared.fault.ArgumentFault.TheVariants.{ReaderCount}
use Rattle.report.specs.declared.fault.CheckFault.{CheckFault}
use Rattle.report.specs.declared.fault.CheckFault.TheVariants.{Arguments, Config, Memory}
use Rattle.report.specs.declared.last.LastItem.{LastItem}
use Rattle.report.specs.declared.settings.Settings.{Settings}
use Rattle.report.specs.Answers.{IsAnswer}
use Rattle.report.specs.Inputs.{Readings, Texts, given_of_certificate, given_of_core, items_at, scan_of, whole}
use Rattle.report.specs.Last.{last_of, settled}
use Rattle.report.specs.Outcome.{IsJudged, IsOutcome, IsOutcomeBy, IsOutcomeWith, answer_with, argument_fault_of, config_refusal_of}
use Rattle.report.specs.Refused.{IsFirstOf, RefusalMeansFault}
use Rattle.report.proofs.Lawful.{no_means, yes_means}
use Rattle.report.proofs.Whole.{other_count, outcome_under, read_so}

-- the first fault of the input, if a scan ends with it
first_of : (texts : Texts) (readings : Readings) (fault : InputFault) → (scan_of texts readings).end ≡ Err fault → IsFirstOf texts readings fault
first_of texts readings fault is =
    let (pairs, taken, count, first) = refused_at_first (length texts.recordings) (given_of_core texts readings) (given_of_certificate texts readings) (scan_of texts readings) fault refl is in
    (pairs, taken, first)

-- a refusal of the input is for its first fault
pub refusal_means : (texts : Texts) (readings : Readings) (verdict : Verdict) (end : Result (Unit {0}) InputFault) → (scan_of texts readings).end ≡ end
    → RefusalMeansFault texts readings (answer_with verdict end)
refusal_means texts readings (Yes records) (Err fault) is = first_of texts readings fault is
refusal_means texts readings _ _ is = tt

-- a refusal is no Yes and no No, if there are no last records
refused : {settings : Settings} {texts : Texts} {can_fail : CanFail} {requirements : Requirements} {last : List LastItem} (fault : CheckFault) → last ≡ [] → RefusalMeansFault texts whole (Err fault)
    → IsOutcome settings texts whole requirements (Err fault) → IsAnswer settings texts can_fail requirements (Err fault) last
refused fault none means is = record { readings = whole; read = record { recordings = λ cannot core. refl; certificate = λ cannot. refl }; outcome = is; yes = tt; no = tt; refusal = means; last_records = none }

pub want_of_memory : {settings : Settings} {texts : Texts} {can_fail : CanFail} {requirements : Requirements} {last : List LastItem} → last ≡ [] → IsAnswer settings texts can_fail requirements (Err Memory) last
want_of_memory none = refused Memory none tt (inl refl)

-- the refusal of the settings
pub refused_settings : {settings : Settings} {texts : Texts} {can_fail : CanFail} {requirements : Requirements} {last : List LastItem} (fault : ArgumentFault) → last ≡ []
    → argument_fault_of settings ≡ Some fault → IsAnswer settings texts can_fail requirements (Err (Arguments fault)) last
refused_settings {settings} {texts} {can_fail} {requirements} {last} fault none is =
    refused (Arguments fault) none tt (inr (subst (λ found. IsOutcomeWith found texts whole requirements (Err (Arguments fault))) (sym is) refl))

-- if nothing is wrong with the settings, the outcome is that of the texts
with_settings : (settings : Settings) (texts : Texts) (readings : Readings) (requirements : Requirements) (result : Result Verdict CheckFault) → argument_fault_of settings ≡ None
    → IsOutcomeBy (configuration_of texts.config) texts readings requirements result → IsOutcome settings texts readings requirements result
with_settings settings texts readings requirements result none is = inr (subst (λ found. IsOutcomeWith found texts readings requirements result) (sym none) is)

-- a fault of the configuration as the check reports it
config_reported : (fault : ConfigFault) → (fault ≡ config.Memory) ⊎ ((fault ≢ config.Memory) × (config_refusal_of fault ≡ Config fault))
config_reported config.Memory = inl refl
config_reported fault = inr ((λ e. cc), refl)

-- the refusal of the configuration
pub refused_configuration : {settings : Settings} {texts : Texts} {can_fail : CanFail} {requirements : Requirements} {last : List LastItem} (fault : ConfigFault) → last ≡ []
    → argument_fault_of settings ≡ None → (fault ≢ config.Memory → configuration_of texts.config ≡ Err fault) → IsAnswer settings texts can_fail requirements (Err (config_refusal_of fault)) last
refused_configuration {settings} {texts} {can_fail} {requirements} {last} fault none right read = elim (config_reported fault) [
  | inl memory ↦ subst (λ one. IsAnswer settings texts can_fail requirements (Err (config_refusal_of one)) last) (sym memory) (want_of_memory none)
  | inr (other, is) ↦ subst (λ one. IsAnswer settings texts can_fail requirements (Err one) last) (sym is)
      (refused (Config fault) none tt (with_settings settings texts whole requirements (Err (Config fault)) right
      (subst (λ reading. IsOutcomeBy reading texts whole requirements (Err (Config fault))) (sym (read other)) refl)))
]

-- the refusal of the number of readers
pub refused_count : {settings : Settings} {texts : Texts} {can_fail : CanFail} {requirements : Requirements} {last : List LastItem} (configuration : Configuration) → last ≡ []
    → argument_fault_of settings ≡ None → configuration_of texts.config ≡ Ok configuration → length texts.recordings ≢ configuration.cores
    → IsAnswer settings texts can_fail requirements (Err (Arguments ReaderCount)) last
refused_count {settings} {texts} {can_fail} {requirements} {last} configuration none right read apart =
    refused (Arguments ReaderCount) none tt (with_settings settings texts whole requirements (Err (Arguments ReaderCount)) right
    (subst (λ reading. IsOutcomeBy reading texts whole requirements (Err (Arguments ReaderCount))) (sym read)
    (other_count configuration texts whole requirements (Err (Arguments ReaderCount)) apart refl)))

-- what is known after the judging of all that was ahead
pub record IsEnded (configuration : Configuration) (texts : Texts) (can_fail : CanFail) (requirements : Requirements) (result : Result Verdict CheckFault) (last : List LastItem) : Type 0 where
  pub scanned : Scan
  pub scan : IsScanOf can_fail (length texts.recordings) none_taken 0 (items_at texts.recordings) (pairs_of texts.certificate) scanned
  pub judged : IsJudged configuration requirements scanned result
  pub reported : last ≡ last_of result scanned.placed

-- the answer after it
pub answered : (settings : Settings) (texts : Texts) (can_fail : CanFail) (requirements : Requirements) (configuration : Configuration) (result : Result Verdict CheckFault) (last : List LastItem)
    → argument_fault_of settings ≡ None → configuration_of texts.config ≡ Ok configuration → length texts.recordings ≡ configuration.cores
    → ((scanned : Scan) (verdict : Verdict) → IsScanOf can_fail (length texts.recordings) none_taken 0 (items_at texts.recordings) (pairs_of texts.certificate) scanned
    → IsVerdict configuration requirements scanned.placed verdict
    → IsRunWhereYes configuration requirements scanned.placed verdict × IsRunUpToNo configuration requirements scanned.placed verdict)
    → (result ≡ Err Memory) ⊎ IsEnded configuration texts can_fail requirements result last
    → IsAnswer settings texts can_fail requirements result (settled result last)
answered settings texts can_fail requirements configuration result last none read count means (inl memory) =
    subst (λ one. IsAnswer settings texts can_fail requirements one (settled one last)) (sym memory) (want_of_memory refl)
answered settings texts can_fail requirements configuration result last none read count means (inr ended) =
    let (verdict, found, is) = ended.judged in
    let runs = means ended.scanned verdict ended.scan found in
    let so = read_so can_fail texts ended.scanned ended.scan in
    let no = no_means can_fail texts requirements configuration ended.scanned read count ended.scan verdict result last runs.1 is ended.reported in
    record {
      readings = so.readings;
      read = so.read;
      outcome = with_settings settings texts so.readings requirements result none
          (subst (λ reading. IsOutcomeBy reading texts so.readings requirements result) (sym read) (outcome_under configuration texts so.readings requirements result ended.scanned count so.scan ended.judged));
      yes = yes_means can_fail texts requirements configuration ended.scanned read count ended.scan verdict result runs.0 is;
      no = no.0;
      refusal = subst (RefusalMeansFault texts so.readings) (sym is) (refusal_means texts so.readings verdict ended.scanned.end (ap (λ one. one.end) so.scan));
      last_records = no.1;
    }
