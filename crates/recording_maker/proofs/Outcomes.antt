-- What is made is the outcome of a check.
use Rattle.std.proofs.Common.{◌≡◌, ◌∙◌, ℕ, [], Option, Some, None, Result, Ok, Err, refl, sym, ap, subst, inl, inr}
use mathlib.Core.Path.{fun_ext}
use Rattle.module_config.specs.Reading.{configuration_of}
use Rattle.user_rules.specs.Remembered.{Requirements, required_by}
use Rattle.verdict_merge.specs.declared.verdict.Verdict.{Verdict}
use Rattle.report.specs.declared.fault.ArgumentFault.{ArgumentFault}
use Rattle.report.specs.declared.fault.CheckFault.{CheckFault}
use Rattle.report.specs.declared.fault.CheckFault.TheVariants.{Arguments}
use Rattle.report.specs.declared.settings.Settings.{Settings}
use Rattle.report.specs.Inputs.{MayRead, Readings, Texts, whole}
use Rattle.report.specs.Outcome.{IsOutcome, IsOutcomeBy, IsOutcomeWith, argument_fault_of}
use Rattle.recording_maker.specs.Made.{in_memory, texts_made}
use Rattle.recording_maker.specs.Outcome.{MadeIsTheOutcome}

-- texts of which so much is read
abbrev read_by : (ℕ → Option ℕ) → Option ℕ → Readings
read_by recordings certificate = record { recordings = recordings; certificate = certificate }

-- texts in memory are read whole
read_whole : (readings : Readings) → MayRead in_memory readings → readings ≡ whole
read_whole readings read =
    let recordings : readings.recordings ≡ whole.recordings = fun_ext (read.recordings refl) in
    let certificate : readings.certificate ≡ None = read.certificate refl in
    ap (λ (rows : ℕ → Option ℕ). read_by rows readings.certificate) recordings ∙ ap (λ (row : Option ℕ). read_by whole.recordings row) certificate

-- a verdict shows that nothing was wrong with the settings
by_configuration : (found : Option ArgumentFault) (texts : Texts) (readings : Readings) (requirements : Requirements) (verdict : Verdict)
    → IsOutcomeWith found texts readings requirements (Ok verdict) → IsOutcomeBy (configuration_of texts.config) texts readings requirements (Ok verdict)
by_configuration None texts readings requirements verdict is = is
by_configuration (Some fault) texts readings requirements verdict is =
    let refused : ◌≡◌ {A = Result Verdict CheckFault} (Ok verdict) (Err (Arguments fault)) = is in cc

-- a verdict under some settings is the outcome under all that are not refused
under_all : (some others : Settings) (texts : Texts) (readings : Readings) (requirements : Requirements) (verdict : Verdict) → argument_fault_of others ≡ None
    → IsOutcome some texts readings requirements (Ok verdict) → IsOutcome others texts readings requirements (Ok verdict)
under_all some others texts readings requirements verdict sound (inl memory) = cc
under_all some others texts readings requirements verdict sound (inr is) =
    inr (subst (λ (found : Option ArgumentFault). IsOutcomeWith found texts readings requirements (Ok verdict)) (sym sound)
    (by_configuration (argument_fault_of some) texts readings requirements verdict is))

pub made_is_the_outcome : MadeIsTheOutcome
made_is_the_outcome settings config plan made sound is =
    let answer = is.checked.answer in
    let texts : Texts = texts_made config made in
    let same : answer.readings ≡ whole = read_whole answer.readings answer.read in (
      under_all is.checked.settings settings texts whole (required_by [] []) made.verdict sound
          (subst (λ (readings : Readings). IsOutcome is.checked.settings texts readings (required_by [] []) (Ok made.verdict)) same answer.outcome),
      answer.yes,
      answer.no,
    )
