-- What is found in recordings alone, and how such a run ends.
use Rattle.std.specs.Prelude.{◌≡◌, ◌⊎◌, ℕ, Bool, List, Option, Any, IfSome, map, string_bytes}
use Rattle.std.specs.Global.{Vec}
use Rattle.std.specs.List.{AllZip}
use Rattle.answer_words.specs.declared.names.InputNames.{InputNames}
use Rattle.answer_words.specs.Folders.{FolderView, ReadFiles}
use Rattle.csv_rows.specs.declared.watched.Watched.{Watched}
use Rattle.program_ends.specs.declared.ending.Ending.{Ending}
use Rattle.program_ends.specs.declared.ending.Ending.TheVariants as ending
use Rattle.program_ends.specs.Endings.{out_of_memory}
use Rattle.record_read.specs.Row.{records_of}
use Rattle.rows_check.specs.declared.found.RowsFound.{RowsFound}
use Rattle.rows_check.specs.Found.{IsFoundIn}
use Rattle.apexcheck.specs.declared.awaited.Observed.{Observed}
use Rattle.check_result.specs.declared.ending.CheckEnd.{CheckEnd}
use Rattle.check_result.specs.declared.ending.CheckEnd.TheVariants.{Rows}
use Rattle.check_result.specs.Endings.{refusing}
use Rattle.apexcheck.specs.Files.{file_of}

-- what is found in each of these sources, as far as its text is known
abbrev pub AreFound : {S : Type 0} → (S → Option (List ℕ)) → Bool → List S → List RowsFound → Type 0
AreFound known can_fail sources found = AllZip (λ source one. IfSome (known source) (λ text. IsFoundIn can_fail (records_of text) one)) sources found

-- a run over the rows of these sources ends with what is found in each; a lack of memory outranks it
abbrev pub EndsByRows : {S : Type 0} → (S → Option (List ℕ)) → Bool → List S → Ending CheckEnd → Type 0
EndsByRows known can_fail sources end =
    (end ≡ out_of_memory refusing)
    ⊎ ((found : Vec RowsFound) × (end ≡ ending.Own (Rows found)) × AreFound known can_fail sources found.items)

module _ {F : Type 0} (facts : FolderView F) where
  -- a run over the rows of the named recordings: memory ran out before they were read; or one of the files is refused, and the run ends with
  -- that; or each was opened, and the run ends with what is found in it
  abbrev pub IsOfRows : (Observed (Watched F) → Option (List ℕ)) → Bool → InputNames → Ending CheckEnd → Type 0
  IsOfRows known can_fail names end =
      (end ≡ out_of_memory refusing)
      ⊎ ((end ≡ ending.Unopened) × Any (λ name. facts.refuses (string_bytes name)) names.cores.items)
      ⊎ ((sources : List (Observed (Watched F))) × ReadFiles facts file_of (map string_bytes names.cores.items) sources × EndsByRows known can_fail sources end)
