-- How a run over files ends.
use Rattle.std.specs.Prelude.{◌≡◌, ◌⊎◌, ℕ, Bool, List, Option, None, Result, Ok, Err, map, option_map}
use Rattle.answer_words.specs.declared.names.InputNames.{InputNames}
use Rattle.answer_words.specs.declared.opening.OpenFault.{OpenFault}
use Rattle.answer_words.specs.declared.opening.OpenFault.TheVariants.{Unopened, Memory}
use Rattle.answer_words.specs.Folders.{AreInRoles, FolderView, RefusesOne}
use Rattle.asked_rules.specs.Asked.{AreRequired, rules_given}
use Rattle.csv_rows.specs.declared.watched.Watched.{Watched}
use Rattle.program_ends.specs.declared.ending.Ending.{Ending}
use Rattle.program_ends.specs.declared.ending.Ending.TheVariants as ending
use Rattle.program_ends.specs.Endings.{out_of_memory, refused_rules}
use Rattle.report.specs.declared.settings.Settings.{Settings}
use Rattle.report.specs.Answers.{Given, given_by}
use Rattle.report.specs.Outcome.{argument_fault_of}
use Rattle.asked_rules.specs.declared.option.RuleOption.{RuleOption}
use Rattle.asked_rules.specs.Options.{in_order}
use Rattle.asked_rules.specs.declared.fault.RulesFault.{RulesFault}
use Rattle.asked_rules.specs.Reading.{SaidFile}
use Rattle.user_rules.specs.Remembered.{Requirements}
use Rattle.shown_run.specs.declared.ending.ViewEnd.{ViewEnd}
use Rattle.shown_run.specs.declared.files.FilesAsked.{FilesAsked}
use Rattle.shown_run.specs.declared.files.Opened.{Opened}
use Rattle.shown_run.specs.Endings.{refusing}
use Rattle.shown_run.specs.Shown.{EndsAs}

-- the end if not all files could be opened
abbrev pub ending_of : OpenFault → Ending ViewEnd
ending_of Unopened = ending.Unopened
ending_of Memory = out_of_memory refusing

-- what is known of opened texts, from what is known of each, and from whether reading them can fail
abbrev pub given_of : {S : Type 0} → (S → Option (List ℕ)) → Bool → Opened S → Given
given_of known can_fail opened = given_by opened.config.items (map known opened.cores.items) can_fail (known opened.order) can_fail

-- the end for a rules file: its first refusal; else that of a check of these inputs under the memories of the file and relations that say
-- what the options request, followed by what the rules of the file say, in their order, whatever the settings of the check if they are not
-- refused
abbrev pub EndsUnder : Result SaidFile RulesFault → Given → List RuleOption → Ending ViewEnd → Type 0
EndsUnder (Err fault) given options end = end ≡ refused_rules refusing fault
EndsUnder (Ok file) given options end =
    (requirements : Requirements) × AreRequired options file requirements
    × ((settings : Settings) → argument_fault_of settings ≡ None → EndsAs given requirements settings end)

-- a run over opened texts ends as it was requested; a lack of memory outranks that
abbrev pub EndsAsAsked : {S : Type 0} → (S → Option (List ℕ)) → Bool → Opened S → FilesAsked → Ending ViewEnd → Type 0
EndsAsAsked known can_fail opened asked end =
    (end ≡ out_of_memory refusing)
    ⊎ EndsUnder (rules_given (option_map (λ text. text.items) opened.rules)) (given_of known can_fail opened) (in_order asked.options) end

-- the file that a source reads
abbrev pub file_of : {F : Type 0} → Watched F → F
file_of source = source.inner

module _ {F : Type 0} (facts : FolderView F) where
  -- each file was opened in its role
  abbrev pub AreOpened : InputNames → Opened (Watched F) → Type 0
  AreOpened names opened = AreInRoles facts file_of names opened.config.items (option_map (λ rules. rules.items) opened.rules) opened.order opened.cores.items

  -- a run over the requested files: memory ran out before it was judged; or one of the files is refused, and the run ends with that; or each
  -- was opened in its role, and the run ends as it was requested
  abbrev pub IsOfFiles : (Watched F → Option (List ℕ)) → Bool → FilesAsked → Ending ViewEnd → Type 0
  IsOfFiles known can_fail asked end =
      (end ≡ out_of_memory refusing)
      ⊎ ((end ≡ ending.Unopened) × RefusesOne facts asked.names)
      ⊎ ((opened : Opened (Watched F)) × AreOpened asked.names opened × EndsAsAsked known can_fail opened asked end)
