-- A run of the program: what it ends with, and what it leaves.
use Rattle.std.specs.Prelude.{◌≡◌, ◌≢◌, ◌<◌, ℕ, Bool, false, List, [], ◌∷◌, Option, Some, None, Result, Ok, Err}
use Rattle.std.specs.declared.io.ErrorKind.{ErrorKind}
use Rattle.answer_words.specs.Folders.{FolderView}
use Rattle.csv_rows.specs.declared.watched.Watched.{Watched}
use Rattle.program_ends.specs.declared.ending.Ending.{Ending}
use Rattle.program_ends.specs.declared.ending.Ending.TheVariants.{Own}
use Rattle.program_ends.specs.declared.ending.TheConstants.{UNWRITTEN}
use Rattle.program_ends.specs.declared.refused.UsageFault.{UsageFault}
use Rattle.program_ends.specs.Endings.{exit_status_of, refused_words, text_of}
use Rattle.report.specs.declared.fault.CheckFault.{CheckFault}
use Rattle.report.specs.Answers.{Answers, given_by}
use Rattle.sink.specs.Writer.{WriterView}
use Rattle.sink.specs.Written.{IsCut, IsWritten}
use Rattle.user_rules.specs.Remembered.{required_by}
use Rattle.verdict_merge.specs.declared.verdict.Verdict.{Verdict}
use Rattle.apexcheck.specs.declared.awaited.Observed.{Observed}
use Rattle.check_result.specs.declared.ending.CheckEnd.{CheckEnd}
use Rattle.apexcheck.specs.declared.stored.TheConstants.{CONFIG, ORDER, RECORDING, SETTINGS}
use Rattle.check_request.specs.declared.usage.Asked.{Asked}
use Rattle.check_result.specs.Endings.{own_status_of, own_text_of, refusing}
use Rattle.apexcheck.specs.Files.{IsOfFiles}
use Rattle.check_request.specs.Requests.{IsRequested}
use Rattle.apexcheck.specs.RowsAlone.{IsOfRows}

-- an outcome of the run that is stored in the program, with one worker and the usual depth
abbrev pub IsOfStored : Result Verdict CheckFault → Type 0
IsOfStored outcome = Answers (given_by CONFIG.now (Some RECORDING.now ∷ []) false (Some ORDER.now) false) (required_by [] []) SETTINGS outcome

-- an end is written and becomes the status: its whole text went out and the status is its own; or the writer failed, the first bytes of the
-- text went out and no others, and the status is that of unwritten output
pub record IsConcluded (ending : Ending CheckEnd) (before after : WriterView) (status : ℕ) : Type 0 where
  pub status_is : status ≢ UNWRITTEN → status ≡ exit_status_of own_status_of ending
  pub whole : status ≢ UNWRITTEN → IsWritten before.bytes (text_of own_text_of ending) after.bytes
  pub same : status ≢ UNWRITTEN → after.failures ≡ before.failures
  pub cut : status ≡ UNWRITTEN → IsCut before.bytes (text_of own_text_of ending) after.bytes
  pub failed : status ≡ UNWRITTEN → before.failures < after.failures

module _ {F : Type 0} (facts : FolderView F) (known : Observed (Watched F) → Option (List ℕ)) (can_fail : Bool) where
  -- a run ends as it is requested: with an outcome of the stored run, with the version, with what is found in rows alone, as a run over the
  -- files, or with the refusal of the command line
  abbrev pub EndsAsRequested : Result Asked UsageFault → Ending CheckEnd → Type 0
  EndsAsRequested (Ok Asked.StoredRun) ending = (outcome : Result Verdict CheckFault) × (ending ≡ Own (CheckEnd.Checked outcome None)) × IsOfStored outcome
  EndsAsRequested (Ok Asked.Version) ending = ending ≡ Own CheckEnd.Version
  EndsAsRequested (Ok (Asked.Rows names)) ending = IsOfRows facts known can_fail names ending
  EndsAsRequested (Ok (Asked.Files files)) ending = IsOfFiles facts known can_fail files ending
  EndsAsRequested (Err fault) ending = ending ≡ refused_words refusing fault

  -- a run of the program under the words that the system gives, or under its refusal to give them: what they request, the end that this has,
  -- and what is written of that end
  abbrev pub IsRun : Result (List (List ℕ)) ErrorKind → WriterView → WriterView → ℕ → Type 0
  IsRun words before after status =
      (asked : Result Asked UsageFault) × (ending : Ending CheckEnd) × IsRequested words asked × EndsAsRequested asked ending × IsConcluded ending before after status
