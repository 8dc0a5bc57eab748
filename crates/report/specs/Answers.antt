-- What a check answers: the one statement of all its calls.
use Rattle.std.specs.Prelude.{◌≡◌, ℕ, Bool, List, Option, Some, Result, map}
use Rattle.placement.specs.Reading.{CanFail}
use Rattle.user_rules.specs.Remembered.{Requirements}
use Rattle.verdict_merge.specs.declared.verdict.Verdict.{Verdict}
use Rattle.report.specs.declared.fault.CheckFault.{CheckFault}
use Rattle.report.specs.declared.last.LastItem.{LastItem}
use Rattle.report.specs.declared.settings.Settings.{Settings}
use Rattle.report.specs.Inputs.{MayRead, Readings, Texts}
use Rattle.report.specs.Last.{IsLastOf}
use Rattle.report.specs.No.{NoMeansRefusal}
use Rattle.report.specs.Outcome.{IsOutcome}
use Rattle.report.specs.Refused.{RefusalMeansFault}
use Rattle.report.specs.Yes.{YesMeansRun}

-- what an answer means for these texts, whose readers can fail or cannot, and which last records it leaves
pub record IsAnswer (settings : Settings) (texts : Texts) (can_fail : CanFail) (requirements : Requirements) (result : Result Verdict CheckFault) (last : List LastItem) : Type 0 where
  -- it is the one outcome of the texts as far as they were read, which settings that are not refused do not change
  pub readings : Readings
  pub read : MayRead can_fail readings
  pub outcome : IsOutcome settings texts readings requirements result
  -- a Yes: the records are a lawful run in the order of the certificate, in which every relation holds
  pub yes : YesMeansRun texts requirements result
  -- a No: the records before its place are a lawful run, and the record there has no step; a broken rule: the first that is broken
  pub no : NoMeansRefusal texts requirements result
  -- a refusal of the input: for its first fault
  pub refusal : RefusalMeansFault texts readings result
  -- the last records before the place of a No and of a broken rule, and none after any other answer
  pub last_records : IsLastOf texts requirements result last

-- what is known of the inputs of a check: for each reader the bytes that it gives, if they are known, and whether it can fail
pub record Given : Type 0 where
  pub config : List ℕ
  pub recordings : List (Option (List ℕ))
  pub certificate : Option (List ℕ)
  pub can_fail : CanFail

-- readers of the recordings that give these bytes and can fail or cannot, and one of the certificate likewise
abbrev pub given_by : List ℕ → List (Option (List ℕ)) → Bool → Option (List ℕ) → Bool → Given
given_by config recordings recordings_fail certificate certificate_fails = record {
  config = config;
  recordings = recordings;
  certificate = certificate;
  can_fail = record { recordings = recordings_fail; certificate = certificate_fails };
}

-- the answer, and the last records that it leaves, are those of the texts that the readers give, if these are known
abbrev pub AnswersWith : Given → Requirements → Settings → Result Verdict CheckFault → List LastItem → Type 0
AnswersWith given requirements settings result last =
    (recordings : List (List ℕ)) (certificate : List ℕ) → given.recordings ≡ map Some recordings → given.certificate ≡ Some certificate
    → IsAnswer settings (record { config = given.config; recordings = recordings; certificate = certificate }) given.can_fail requirements result last

-- the same without the last records
abbrev pub Answers : Given → Requirements → Settings → Result Verdict CheckFault → Type 0
Answers given requirements settings result = (last : List LastItem) × AnswersWith given requirements settings result last
