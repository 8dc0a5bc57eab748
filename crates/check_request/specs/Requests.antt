-- What the words of a command line request, or why they request nothing.
use Rattle.std.specs.Prelude.{◌≡◌, ◌≢◌, ◌<◌, ◌≤◌, ◌⊎◌, ℕ, List, Result, Ok, Err, IfErr, IfOk, false, length, true}
use Rattle.std.specs.declared.io.ErrorKind.{ErrorKind}
use Rattle.std.specs.declared.io.ErrorKind.TheVariants.{OutOfMemory}
use Rattle.program_ends.specs.declared.refused.UsageFault.{UsageFault}
use Rattle.program_ends.specs.declared.refused.UsageFault.TheVariants.{Usage, Memory}
use Rattle.check_request.specs.declared.usage.Asked.{Asked}
use Rattle.check_request.specs.declared.usage.Asked.TheVariants.{StoredRun, Version}
use Rattle.check_request.specs.CommandLine.{found_in}
use Rattle.check_request.specs.Words.{AsksForFiles, AsksForRows, asks_rows, asks_version}
use Rattle.check_request.specs.Wrong.{IsRefused}

-- what words request: the stored run if nothing follows the program's own name, the version if that alone is requested, the rows of the
-- recordings that are named if the first word is `--rows`, and else the run over files that the words give; they are refused as a wrong
-- command line only if they are one
pub record IsRequest (words : List (List ℕ)) (asked : Result Asked UsageFault) : Type 0 where
  pub stored : length words ≤ 1 → asked ≡ Ok StoredRun
  pub version : asks_version words ≡ true → asked ≡ Ok Version
  pub rows : asks_rows words ≡ true → IfOk asked (AsksForRows words)
  pub files : 1 < length words → asks_version words ≡ false → asks_rows words ≡ false → IfOk asked (AsksForFiles (found_in words))
  pub refused : IfErr asked (λ fault. fault ≡ Usage → IsRefused words)

-- what is requested by the words that the system gives, or by a refusal of this kind to give them: a lack of memory is reported as such and
-- outranks the words, and each other refusal makes a wrong command line
abbrev pub IsRequested : Result (List (List ℕ)) ErrorKind → Result Asked UsageFault → Type 0
IsRequested (Ok words) asked = (asked ≡ Err Memory) ⊎ IsRequest words asked
IsRequested (Err kind) asked = (kind ≡ OutOfMemory → asked ≡ Err Memory) × (kind ≢ OutOfMemory → asked ≡ Err Usage)
