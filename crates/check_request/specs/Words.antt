-- What the words of a command line request.
use Rattle.std.specs.Prelude.{◌≡◌, ℕ, List, [], ◌∷◌, Option, Some, None, Bool, true, false, bytes_eq, codes, drop, map, option_and_then, option_map, string_bytes}
use Rattle.clap.specs.Matches.{raw_values}
use Rattle.clap.specs.Words.{Row, all_of, first_of, first_value, matched_of, one_of}
use Rattle.clap.specs.declared.parser.matches.Found.{Found}
use Rattle.answer_words.specs.declared.names.InputNames.{InputNames}
use Rattle.asked_rules.specs.Options.{values_of}
use Rattle.check_request.specs.declared.usage.Asked.{Asked}
use Rattle.check_request.specs.declared.usage.Asked.TheVariants.{Files, Rows}
use Rattle.check_request.specs.declared.usage.FilesAsked.{FilesAsked}
use Rattle.check_request.specs.Settings.{least_of, settings_of}

-- after the program's own name comes only `--version`
abbrev pub asks_version : List (List ℕ) → Bool
asks_version (name ∷ word ∷ []) = bytes_eq word (codes "--version")
asks_version _ = false

-- the first word after the program's own name is `--rows`
abbrev pub asks_rows : List (List ℕ) → Bool
asks_rows (name ∷ word ∷ names) = bytes_eq word (codes "--rows")
asks_rows _ = false

-- these names of files are those that the parser found
pub record AreNamed (found : Found) (names : InputNames) : Type 0 where
  pub config : Some (string_bytes names.config) ≡ first_value found (codes "config")
  pub rules : option_map string_bytes names.rules ≡ first_value found (codes "rules")
  pub order : Some (string_bytes names.order) ≡ first_value found (codes "order")
  pub cores : Some (map string_bytes names.cores.items) ≡ option_map raw_values (matched_of found (codes "core"))

-- whether a flag is given, from the text that the parser has for it
pub record Tells (text : Option (List ℕ)) (given : Bool) : Type 0 where
  pub is_given : text ≡ Some (codes "true") → given ≡ true
  pub is_not : text ≡ Some (codes "false") → given ≡ false
  pub is_unknown : text ≡ None → given ≡ false

-- what is requested is what the words give: the files by their options, the recordings in their order, the rules, the settings, the number
-- of records that are required, and what is reported
pub record AsksFor (given : List Row) (asked : FilesAsked) : Type 0 where
  pub config : Some (string_bytes asked.names.config) ≡ first_of (codes "config") given
  pub rules : option_map string_bytes asked.names.rules ≡ first_of (codes "rules") given
  pub order : Some (string_bytes asked.names.order) ≡ first_of (codes "order") given
  pub cores : Some (map string_bytes asked.names.cores.items) ≡ all_of (codes "core") given
  pub sarif : option_map string_bytes asked.sarif ≡ first_of (codes "sarif") given
  pub source_root : option_map string_bytes asked.source_root ≡ first_of (codes "source-root") given
  pub json : option_map string_bytes asked.json ≡ first_of (codes "json") given
  pub options : Some asked.options ≡ values_of (first_of (codes "max-elapsed") given) (first_of (codes "forbid") given)
  pub settings : Some asked.settings ≡ option_and_then (λ workers. settings_of workers (first_of (codes "depth") given)) (first_of (codes "workers") given)
  pub at_least : Some asked.at_least ≡ least_of (first_of (codes "at-least") given)
  pub last : Tells (one_of (codes "last") given) asked.last
  pub quiet : Tells (one_of (codes "quiet") given) asked.quiet

-- a run over files is requested, the one that the words give
abbrev pub AsksForFiles : List Row → Asked → Type 0
AsksForFiles given (Files asked) = AsksFor given asked
AsksForFiles given _ = ⊥

-- the rows of the recordings of these names are requested, in their order
abbrev pub NamesRecordings : List (List ℕ) → Asked → Type 0
NamesRecordings names (Rows given) = map string_bytes given.cores.items ≡ names
NamesRecordings names _ = ⊥

-- the rows of the recordings that the words after `--rows` name
abbrev pub AsksForRows : List (List ℕ) → Asked → Type 0
AsksForRows words asked = NamesRecordings (drop 2 words) asked
