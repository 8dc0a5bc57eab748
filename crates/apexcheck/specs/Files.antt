-- How a run over files ends.
use Rattle.std.specs.Prelude.{◌≡◌, ◌⊎◌, ℕ, Bool, List, Option, map, option_map}
use Rattle.answer_words.specs.Folders.{AreInRoles, FolderView, RefusesOne}
use Rattle.answer_words.specs.declared.names.InputNames.{InputNames}
use Rattle.answer_words.specs.declared.opening.OpenFault.{OpenFault}
use Rattle.answer_words.specs.declared.opening.OpenFault.TheVariants.{Unopened, Memory}
use Rattle.csv_rows.specs.declared.watched.Watched.{Watched}
use Rattle.program_ends.specs.declared.ending.Ending.{Ending}
use Rattle.program_ends.specs.declared.ending.Ending.TheVariants as ending
use Rattle.program_ends.specs.Endings.{out_of_memory}
use Rattle.report.specs.Answers.{Given, given_by}
use Rattle.asked_rules.specs.Options.{in_order}
use Rattle.apexcheck.specs.declared.awaited.Observed.{Observed}
use Rattle.check_result.specs.declared.ending.CheckEnd.{CheckEnd}
use Rattle.apexcheck.specs.declared.files.Opened.{Opened}
use Rattle.check_request.specs.declared.usage.FilesAsked.{FilesAsked}
use Rattle.check_result.specs.Endings.{refusing}
use Rattle.apexcheck.specs.Ruled.{IsRuledEnding}

-- the end if not all files could be opened; a lack of memory counts as the check's own
abbrev pub ending_of : OpenFault → Ending CheckEnd
ending_of Unopened = ending.Unopened
ending_of Memory = out_of_memory refusing

-- what is known of opened texts, from what is known of each, and from whether reading them can fail
abbrev pub given_of : {S : Type 0} → (S → Option (List ℕ)) → Bool → Opened S → Given
given_of known can_fail opened = given_by opened.config.items (map known opened.cores.items) can_fail (known opened.order) can_fail

-- a run over opened texts ends as it was requested
abbrev pub EndsAsAsked : {S : Type 0} → (S → Option (List ℕ)) → Bool → Opened S → FilesAsked → Ending CheckEnd → Type 0
EndsAsAsked known can_fail opened asked end =
    IsRuledEnding (given_of known can_fail opened) (in_order asked.options) (option_map (λ text. text.items) opened.rules) asked.settings asked.at_least asked.last end

-- the file that a source reads
abbrev pub file_of : {F : Type 0} → Observed (Watched F) → F
file_of source = source.inner.inner

module _ {F : Type 0} (facts : FolderView F) where
  -- each file was opened in its role
  abbrev pub AreOpened : InputNames → Opened (Observed (Watched F)) → Type 0
  AreOpened names opened = AreInRoles facts file_of names opened.config.items (option_map (λ rules. rules.items) opened.rules) opened.order opened.cores.items

  -- a run over the requested files: memory ran out before the check; or one of the files is refused, and the run ends with that; or each was
  -- opened in its role, and the run ends as it was requested
  abbrev pub IsOfFiles : (Observed (Watched F) → Option (List ℕ)) → Bool → FilesAsked → Ending CheckEnd → Type 0
  IsOfFiles known can_fail asked end =
      (end ≡ out_of_memory refusing)
      ⊎ ((end ≡ ending.Unopened) × RefusesOne facts asked.names)
      ⊎ ((opened : Opened (Observed (Watched F))) × AreOpened asked.names opened × EndsAsAsked known can_fail opened asked end)
