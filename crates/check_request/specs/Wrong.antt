-- Which command lines are wrong.
use Rattle.std.specs.Prelude.{◌≡◌, ◌⊎◌, ℕ, List, [], None, IsTrue, true, false, codes, drop, option_and_then, option_map}
use Rattle.clap.specs.Matches.{raw_values}
use Rattle.clap.specs.Takes.{takes}
use Rattle.clap.specs.Words.{Row, all_of, first_of, first_value, matched_of}
use Rattle.clap.specs.declared.parser.matches.Found.{Found}
use Rattle.asked_rules.specs.Options.{values_of}
use Rattle.check_request.specs.CommandLine.{command_line, found_in}
use Rattle.check_request.specs.Settings.{least_of, settings_of}
use Rattle.check_request.specs.Words.{asks_rows}

-- a file that a run needs is not among what the parser found
abbrev pub LacksFiles : Found → Type 0
LacksFiles found =
    (first_value found (codes "config") ≡ None)
    ⊎ (first_value found (codes "order") ≡ None)
    ⊎ (option_map raw_values (matched_of found (codes "core")) ≡ None)

-- the run that the words request is incomplete: a file is not named, or the option of a rule, of a setting or of the least number of records
-- has a value that it cannot have
abbrev pub IsIncomplete : List Row → Type 0
IsIncomplete given =
    (first_of (codes "config") given ≡ None)
    ⊎ (first_of (codes "order") given ≡ None)
    ⊎ (all_of (codes "core") given ≡ None)
    ⊎ (values_of (first_of (codes "max-elapsed") given) (first_of (codes "forbid") given) ≡ None)
    ⊎ (option_and_then (λ workers. settings_of workers (first_of (codes "depth") given)) (first_of (codes "workers") given) ≡ None)
    ⊎ (least_of (first_of (codes "at-least") given) ≡ None)

-- the command line of a run over files is wrong: the parser does not accept its words, or the run that they request is incomplete
abbrev pub IsWrong : List (List ℕ) → Type 0
IsWrong words = (¬ IsTrue (takes command_line words)) ⊎ IsIncomplete (found_in words)

-- the rows of recordings are requested, and no recording is named
abbrev pub NamesNone : List (List ℕ) → Type 0
NamesNone words = (asks_rows words ≡ true) × (drop 2 words ≡ [])

-- a command line is wrong: it does not request rows and is a wrong one of a run over files, or it requests rows and names no recording
abbrev pub IsRefused : List (List ℕ) → Type 0
IsRefused words = ((asks_rows words ≡ false) × IsWrong words) ⊎ NamesNone words
