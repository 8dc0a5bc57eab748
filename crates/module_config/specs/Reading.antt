-- What a text configures: the configuration, or the first refusal.
use Rattle.std.specs.Prelude.{ℕ, List, length, Option, Some, None, Result, Ok, Err, nat_lt, if◌then◌else◌}
use Rattle.std.specs.Str.{is_utf8}
use Rattle.toml.specs.Data.{Members}
use Rattle.toml.specs.Parse.{parse_document}
use Rattle.apex_types.specs.declared.limits.TheConstants.{LONGEST_CONFIGURATION}
use Rattle.apex_machine.specs.Configuration.{Configuration}
use Rattle.module_config.specs.declared.fault.ConfigFault.{ConfigFault}
use Rattle.module_config.specs.declared.fault.ConfigFault.TheVariants.{NotToml, TooMany}
use Rattle.module_config.specs.declared.refusal.ConfigRefusal.{ConfigRefusal}
use Rattle.module_config.specs.Keys.{◌>>=◌}
use Rattle.module_config.specs.Places.{nowhere, without_place}
use Rattle.module_config.specs.Walk.{walk}
use Rattle.module_config.specs.Whole.{whole_fault}

-- the table that a text is, if the text is UTF-8 and TOML
abbrev pub document_of : List ℕ → Option Members
document_of text = if is_utf8 text then parse_document text else None

-- the configuration, if nothing is refused
abbrev pub unless_refused : Option ConfigFault → Configuration → Result Configuration ConfigRefusal
unless_refused None configuration = Ok configuration
unless_refused (Some fault) configuration = Err (nowhere fault)

-- what is read, if its parts are consistent
abbrev pub judged : Result Configuration ConfigRefusal → Result Configuration ConfigRefusal
judged reading = reading >>= (λ configuration. unless_refused (whole_fault configuration) configuration)

-- what a document configures, each key judged by itself, if the text is a document
abbrev pub walk_in : Option Members → Result Configuration ConfigRefusal
walk_in None = Err (nowhere NotToml)
walk_in (Some keys) = walk keys

-- what a text configures, each key judged by itself; a text of more than 1,048,576 bytes is refused unread
abbrev pub walk_of : List ℕ → Result Configuration ConfigRefusal
walk_of text = if nat_lt LONGEST_CONFIGURATION (length text) then Err (nowhere TooMany) else walk_in (document_of text)

-- what a text configures, or its first refusal with the key at which it is: the walk over the keys, and then the judgement over the whole
-- configuration
abbrev pub placed_configuration_of : List ℕ → Result Configuration ConfigRefusal
placed_configuration_of text = judged (walk_of text)

-- what a text configures, or the fault of its first refusal
abbrev pub configuration_of : List ℕ → Result Configuration ConfigFault
configuration_of text = without_place (placed_configuration_of text)
