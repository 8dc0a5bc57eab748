-- The settings that a command line requests, and the number of records that it requires.
use Rattle.std.specs.Prelude.{ℕ, List, Option, Some, None, option_and_then, option_map}
use Rattle.apex_types.specs.declared.limits.TheConstants.{GREATEST_OPTION}
use Rattle.csv_rows.specs.Decimal.{decimal}
use Rattle.report.specs.declared.settings.Settings.{Settings}
use Rattle.asked_rules.specs.Options.{optional}
use Rattle.check_request.specs.declared.settings.TheConstants.{USUAL_DEPTH}

-- the depth from its text; the usual one if there is none
abbrev pub depth_of : Option (List ℕ) → Option ℕ
depth_of None = Some USUAL_DEPTH
depth_of (Some text) = decimal GREATEST_OPTION text

-- the workers from their text
abbrev pub workers_of : List ℕ → Option ℕ
workers_of text = decimal GREATEST_OPTION text

-- the settings from the text of the workers and that of the depth, if there is one; none if one of them is not a number
abbrev pub settings_of : List ℕ → Option (List ℕ) → Option Settings
settings_of workers depth = option_and_then (λ workers. option_map (λ depth. record { workers = workers; depth = depth }) (depth_of depth)) (workers_of workers)

-- the number of records that are required, if a text says so; none if the text is not a number
abbrev pub least_of : Option (List ℕ) → Option (Option ℕ)
least_of text = optional (decimal GREATEST_OPTION) text
