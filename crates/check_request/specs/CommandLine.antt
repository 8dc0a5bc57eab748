-- The words that the program takes after its name, as its parser of command lines reads them.
use Rattle.std.specs.Prelude.{ℕ, List, Some, true, codes}
use Rattle.clap.specs.Lexer.{usize_max}
use Rattle.clap.specs.Words.{App, Row, Rule, matches_of, new_app, new_rule, with_rule}
use Rattle.clap.specs.declared.builder.action.ArgAction.TheVariants.{Append, Set, SetTrue}

-- the option of this name, which has a value
abbrev pub option_of : List ℕ → Rule
option_of name = record (new_rule name) { long = Some name; action = Some Set }

-- the flag of this name, which has no value
abbrev pub flag_of : List ℕ → Rule
flag_of name = record (new_rule name) { long = Some name; action = Some SetTrue }

-- an option that is required
abbrev pub wanted : Rule → Rule
wanted rule = record rule { required = true }

-- the recordings, at least one
abbrev pub recordings : Rule
recordings = record (new_rule (codes "core")) {
  required = true;
  range = Some (record { start_inclusive = 1; end_inclusive = usize_max });
  action = Some Append;
}

-- no word for help is accepted
abbrev pub without_help : App → App
without_help app = record app { top = record app.top { disable_help_flag = true } }

-- an app that accepts no words
abbrev pub no_words : App
no_words = without_help (new_app (codes "apexcheck"))

-- the options that name the texts of a run and say how it is checked
abbrev pub options_of_a_check : App
options_of_a_check = with_rule (with_rule (with_rule (with_rule no_words
    (wanted (option_of (codes "config"))))
    (wanted (option_of (codes "order"))))
    (wanted (option_of (codes "workers"))))
    (option_of (codes "depth"))

-- the options for rules, the one for the least number of records, and those for what is reported and written
abbrev pub options : App
options = with_rule (with_rule (with_rule (with_rule (with_rule (with_rule (with_rule (with_rule (with_rule options_of_a_check
    (option_of (codes "max-elapsed")))
    (option_of (codes "forbid")))
    (option_of (codes "rules")))
    (option_of (codes "at-least")))
    (flag_of (codes "last")))
    (flag_of (codes "quiet")))
    (option_of (codes "sarif")))
    (option_of (codes "source-root")))
    (option_of (codes "json"))

-- the words of a run over files: each option at most once, and the recordings
abbrev pub command_line : App
command_line = with_rule options recordings

-- what these words give each option and the recordings; the first word is the program's own name
abbrev pub found_in : List (List ℕ) → List Row
found_in words = matches_of command_line words
