-- What is made of a command line that the parser takes is what the words of it give.
use Rattle.std.proofs.Common.{◌≡◌, ◌∙◌, ℕ, List, Option, Some, None, Ok, Err, true, ap, ap₂, codes, inl, inr, option_and_then, option_map, refl, string_bytes, subst, sym}
use Rattle.std.specs.Option.{ok_or}
use Rattle.std.specs.Prelude.{IfErr, IsErrAnd, Result}
use Rattle.clap.proofs.OnLiterals.{clap_on_literals}
use Rattle.clap.proofs.WalkLemmas.{first_value-rows, one_text-rows, raw_values-rows}
use Rattle.clap.specs.Matches.{raw_values}
use Rattle.clap.specs.Simple.{HasMatchesOf}
use Rattle.clap.specs.Walk.{rows_of}
use Rattle.clap.specs.Words.{Row, all_of, app_of, first_of, first_value, found_of, is_simple, matched_of, matches_of, one_of, one_text}
use Rattle.clap.specs.declared.builder.command.Command.{Command}
use Rattle.clap.specs.declared.parser.matches.ArgMatches.{ArgMatches}
use Rattle.program_ends.specs.declared.refused.UsageFault.{UsageFault}
use Rattle.asked_rules.specs.Options.{values_of}
use Rattle.check_request.specs.CommandLine.{command_line, found_in}
use Rattle.check_request.specs.Settings.{least_of, settings_of}
use Rattle.check_request.specs.Words.{AreNamed, AsksFor, Tells}
use Rattle.check_request.specs.Wrong.{IsIncomplete, LacksFiles}
use Rattle.check_request.specs.declared.usage.FilesAsked.{FilesAsked}

-- the parser's own account of the matches is for command lines like this one
is_simple_line : is_simple command_line ≡ true
unfolding clap_on_literals
is_simple_line = refl

pub found_is : (command : Command) (words : List (List ℕ)) (matches : ArgMatches) → app_of command ≡ command_line
    → HasMatchesOf (app_of command) words matches → rows_of (found_of matches) ≡ found_in words
found_is command words matches is gives = (gives (ap is_simple is ∙ is_simple_line)).0 ∙ ap (λ app. matches_of app words) is

value_of : {A E : Type 0} (given : Option A) (fault : E) (value : A) → Ok value ≡ ok_or given fault → Some value ≡ given
value_of None fault value is = cc
value_of (Some found) fault value is = cc

-- a required option is refused only if it is missing
none_of : {A E : Type 0} (given : Option A) (fault e : E) → Err e ≡ ok_or given fault → given ≡ None
none_of None fault e is = refl
none_of (Some found) fault e is = cc

module _ (matches : ArgMatches) (given : List Row) (is : rows_of (found_of matches) ≡ given) where
  first : (id : List ℕ) → first_value (found_of matches) id ≡ first_of id given
  first id = first_value-rows (found_of matches) id ∙ ap (first_of id) is

  one : (id : List ℕ) → one_text (found_of matches) id ≡ one_of id given
  one id = one_text-rows (found_of matches) id ∙ ap (one_of id) is

  all : (id : List ℕ) → option_map raw_values (matched_of (found_of matches) id) ≡ all_of id given
  all id = raw_values-rows (found_of matches) id ∙ ap (all_of id) is

  -- what each part is found to be is what the rows of the command line give
  pub asks_for : (asked : FilesAsked) → AreNamed (found_of matches) asked.names → option_map string_bytes asked.sarif ≡ first_value (found_of matches) (codes "sarif")
      → option_map string_bytes asked.source_root ≡ first_value (found_of matches) (codes "source-root") → option_map string_bytes asked.json ≡ first_value (found_of matches) (codes "json")
      → Ok asked.options ≡ ok_or (values_of (first_value (found_of matches) (codes "max-elapsed")) (first_value (found_of matches) (codes "forbid"))) UsageFault.Usage
      → Ok asked.settings
      ≡ ok_or (option_and_then (λ workers. settings_of workers (first_value (found_of matches) (codes "depth"))) (first_value (found_of matches) (codes "workers"))) UsageFault.Usage
      → Ok asked.at_least ≡ ok_or (least_of (first_value (found_of matches) (codes "at-least"))) UsageFault.Usage
      → Tells (one_text (found_of matches) (codes "last")) asked.last → Tells (one_text (found_of matches) (codes "quiet")) asked.quiet
      → AsksFor given asked
  asks_for asked names sarif source_root json options settings least last quiet = record {
    config = names.config ∙ first (codes "config");
    rules = names.rules ∙ first (codes "rules");
    order = names.order ∙ first (codes "order");
    cores = names.cores ∙ all (codes "core");
    sarif = sarif ∙ first (codes "sarif");
    source_root = source_root ∙ first (codes "source-root");
    json = json ∙ first (codes "json");
    options = value_of _ UsageFault.Usage asked.options options ∙ ap₂ values_of (first (codes "max-elapsed")) (first (codes "forbid"));
    settings = value_of _ UsageFault.Usage asked.settings settings
        ∙ ap₂ (λ depth text. option_and_then (λ workers. settings_of workers depth) text) (first (codes "depth")) (first (codes "workers"));
    at_least = value_of _ UsageFault.Usage asked.at_least least ∙ ap least_of (first (codes "at-least"));
    last = subst (λ text. Tells text asked.last) (one (codes "last")) last;
    quiet = subst (λ text. Tells text asked.quiet) (one (codes "quiet")) quiet;
  }

  -- a file that the parser did not find is none of the words
  pub lacks_files : LacksFiles (found_of matches) → IsIncomplete given
  lacks_files (inl config) = inl (sym (first (codes "config")) ∙ config)
  lacks_files (inr (inl order)) = inr (inl (sym (first (codes "order")) ∙ order))
  lacks_files (inr (inr cores)) = inr (inr (inl (sym (all (codes "core")) ∙ cores)))

  -- nor are values that the rules' options cannot have
  pub lacks_options : (fault : UsageFault)
      → Err fault ≡ ok_or (values_of (first_value (found_of matches) (codes "max-elapsed")) (first_value (found_of matches) (codes "forbid"))) UsageFault.Usage
      → IsIncomplete given
  lacks_options fault refused =
      inr (inr (inr (inl (sym (ap₂ values_of (first (codes "max-elapsed")) (first (codes "forbid"))) ∙ none_of _ UsageFault.Usage fault refused))))

  -- nor are values that the settings cannot have
  pub lacks_settings : (fault : UsageFault) → Err fault
      ≡ ok_or (option_and_then (λ workers. settings_of workers (first_value (found_of matches) (codes "depth"))) (first_value (found_of matches) (codes "workers"))) UsageFault.Usage
      → IsIncomplete given
  lacks_settings fault refused =
      inr (inr (inr (inr (inl (sym (ap₂ (λ depth text. option_and_then (λ workers. settings_of workers depth) text) (first (codes "depth")) (first (codes "workers")))
      ∙ none_of _ UsageFault.Usage fault refused)))))

  -- nor is a least number of records that is no number
  pub lacks_least : (fault : UsageFault) → Err fault ≡ ok_or (least_of (first_value (found_of matches) (codes "at-least"))) UsageFault.Usage → IsIncomplete given
  lacks_least fault refused = inr (inr (inr (inr (inr (sym (ap least_of (first (codes "at-least"))) ∙ none_of _ UsageFault.Usage fault refused)))))

-- what holds of the error that a result has
pub of_error : {Value Fault : Type 0} (Same Fact : Fault → Type 0) → ((fault : Fault) → Same fault → Fact fault) → (result : Result Value Fault) → IsErrAnd result Same
    → IfErr result Fact
of_error Same Fact then (Ok value) is = tt
of_error Same Fact then (Err fault) is = then fault is
