-- How a run ends, by what the command line requests.
use Rattle.std.specs.Prelude.{◌≡◌, ◌⊎◌, ℕ, Bool, List, Option, Result, Ok, Err}
use Rattle.answer_words.specs.Folders.{FolderView}
use Rattle.csv_rows.specs.declared.watched.Watched.{Watched}
use Rattle.program_ends.specs.declared.ending.Ending.{Ending}
use Rattle.program_ends.specs.declared.ending.Ending.TheVariants.{Own}
use Rattle.program_ends.specs.declared.refused.UsageFault.{UsageFault}
use Rattle.program_ends.specs.Endings.{out_of_memory, refused_words}
use Rattle.shown_run.specs.Files.{IsOfFiles}
use Rattle.shown_run.specs.Endings.{refusing}
use Rattle.shown_run.specs.declared.ending.ViewEnd.{ViewEnd}
use Rattle.shown_run.specs.declared.ending.ViewEnd.TheVariants.{Help, Unwritten, Version}
use Rattle.apexview.specs.declared.usage.Asked.{Asked}
use Rattle.apexview.specs.declared.usage.Asked.TheVariants as asks

module _ {F : Type 0} (facts : FolderView F) (known : Watched F → Option (List ℕ)) (can_fail : Bool) where
  -- what the command line requests: a run over files, the version or the help; or its words are refused
  abbrev pub IsRequested : Result Asked UsageFault → Ending ViewEnd → Type 0
  IsRequested (Ok (asks.Files files view)) ending = IsOfFiles facts known can_fail files ending
  IsRequested (Ok asks.Version) ending = ending ≡ Own Version
  IsRequested (Ok asks.Help) ending = ending ≡ Own Help
  IsRequested (Err fault) ending = ending ≡ refused_words refusing fault

  -- a run ends by what is requested, unless standard output could not be written or memory was refused
  abbrev pub EndsBy : Result Asked UsageFault → Ending ViewEnd → Type 0
  EndsBy asked ending = (ending ≡ Own Unwritten) ⊎ (ending ≡ out_of_memory refusing) ⊎ IsRequested asked ending
