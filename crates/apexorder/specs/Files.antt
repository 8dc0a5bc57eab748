-- How a run over files ends.
use Rattle.std.specs.Prelude.{◌≡◌, ◌⊎◌, ℕ, List, Option, Some, Result, Ok, Err, Any, IsSomeAnd, length, map, option_map, string_bytes}
use Rattle.answer_words.specs.declared.opening.OpenFault.{OpenFault}
use Rattle.answer_words.specs.declared.opening.OpenFault.TheVariants.{Unopened, Memory}
use Rattle.answer_words.specs.Folders.{AreRulesOf, FolderView, ReadFiles}
use Rattle.apex_machine.specs.Configuration.{Configuration}
use Rattle.csv_rows.specs.declared.watched.Watched.{Watched}
use Rattle.module_config.specs.Reading.{configuration_of}
use Rattle.record_read.specs.Row.{records_of}
use Rattle.apexorder.specs.declared.names.OrderNames.{OrderNames}
use Rattle.program_ends.specs.declared.ending.Ending.{Ending}
use Rattle.program_ends.specs.declared.ending.Ending.TheVariants as ending
use Rattle.program_ends.specs.declared.refused.UsageFault.{UsageFault}
use Rattle.program_ends.specs.Endings.{out_of_memory, refused_rules, refused_words}
use Rattle.asked_rules.specs.Options.{in_order}
use Rattle.asked_rules.specs.declared.fault.RulesFault.{RulesFault}
use Rattle.asked_rules.specs.Reading.{SaidFile}
use Rattle.apexorder.specs.declared.ending.OrderEnd.{OrderEnd}
use Rattle.apexorder.specs.declared.ending.OrderEnd.TheVariants as own
use Rattle.apexorder.specs.declared.files.Opened.{Opened}
use Rattle.apexorder.specs.declared.usage.Asked.{Asked}
use Rattle.apexorder.specs.declared.usage.Asked.TheVariants as asks
use Rattle.apexorder.specs.declared.usage.OrderAsked.{OrderAsked}
use Rattle.apexorder.specs.Endings.{EndsSearch, HasReceived, refusing}
use Rattle.asked_rules.specs.Asked.{rules_given}
use Rattle.apexorder.specs.Ruled.{IsCertified}

-- the end if not all files could be opened
abbrev pub ending_of_files : OpenFault → Ending OrderEnd
ending_of_files Unopened = ending.Unopened
ending_of_files Memory = out_of_memory refusing

-- the text of the rules file that was opened, if there is one
abbrev pub rules_text : {S : Type 0} → Opened S → Option (List ℕ)
rules_text opened = option_map (λ text. text.items) opened.rules

-- a run over opened texts ends as it was requested, and its output received this
pub record EndsAsAsked {S : Type 0} (known : S → Option (List ℕ)) (opened : Opened S) (asked : OrderAsked) (before after : Option (List ℕ)) (end : Ending OrderEnd) : Type 0 where
  -- the first bytes of rows that begin a lawful order of the configured cores and list the first records of the recordings, and nothing if
  -- the text is no configuration
  pub rows : HasReceived (configuration_of opened.text.items) (map (λ source. option_map records_of (known source)) opened.cores.items) before after
  -- a rules file that is refused ends the run by its first fault, unless memory is refused, and nothing is written
  pub refused : (fault : RulesFault) → rules_given (rules_text opened) ≡ Err fault → ((end ≡ out_of_memory refusing) ⊎ (end ≡ refused_rules refusing fault)) × (after ≡ before)
  -- unless the rules file is refused, the search over the recordings ends it
  pub ended : (file : SaidFile) → rules_given (rules_text opened) ≡ Ok file → EndsSearch (configuration_of opened.text.items) (length opened.cores.items) end
  -- a proposal is that of the configuration, the rules and the recordings
  pub certified : (configuration : Configuration) (texts : List (List ℕ)) (file : SaidFile) → configuration_of opened.text.items ≡ Ok configuration
      → map known opened.cores.items ≡ map Some texts → rules_given (rules_text opened) ≡ Ok file
      → IsCertified configuration (in_order asked.options) file texts before after end

-- the file that a source reads
abbrev pub file_of : {F : Type 0} → Watched F → F
file_of source = source.inner

module _ {F : Type 0} (facts : FolderView F) where
  -- each file was opened in its role: the configuration and the rules are the texts in the files that are named as such, and the recordings
  -- are read from theirs, core 0 first
  pub record AreOpened (names : OrderNames) (opened : Opened (Watched F)) : Type 0 where
    pub config : facts.is_text (string_bytes names.config) opened.text.items
    pub rules : AreRulesOf facts (option_map string_bytes names.rules) (rules_text opened)
    pub cores : ReadFiles facts file_of (map string_bytes names.cores.items) opened.cores.items

  -- one of the files that are named is refused
  abbrev pub RefusesOne : OrderNames → Type 0
  RefusesOne names =
      facts.refuses (string_bytes names.config)
      ⊎ IsSomeAnd (option_map string_bytes names.rules) facts.refuses
      ⊎ Any (λ name. facts.refuses (string_bytes name)) names.cores.items

  -- a run over the requested files: memory ran out before the search; or one of the files is refused, and the run ends with that; or each was
  -- opened in its role, and the run ends as it was requested
  abbrev pub IsOfFiles : (Watched F → Option (List ℕ)) → OrderAsked → Ending OrderEnd → Type 0
  IsOfFiles known asked end =
      (end ≡ out_of_memory refusing)
      ⊎ ((end ≡ ending.Unopened) × RefusesOne asked.names)
      ⊎ ((opened : Opened (Watched F)) × (before : Option (List ℕ)) × (after : Option (List ℕ)) × AreOpened asked.names opened × EndsAsAsked known opened asked before after end)

  -- a run for what the command line requests: over files; or it printed the version or the help, or could not; or the words are refused
  abbrev pub EndsBy : (Watched F → Option (List ℕ)) → Result Asked UsageFault → Ending OrderEnd → Type 0
  EndsBy known (Ok (asks.Order asked)) end = IsOfFiles known asked end
  EndsBy known (Ok asks.Version) end = (end ≡ ending.Own own.Version) ⊎ (end ≡ ending.Own own.Unwritten)
  EndsBy known (Ok asks.Help) end = (end ≡ ending.Own own.Help) ⊎ (end ≡ ending.Own own.Unwritten)
  EndsBy known (Err fault) end = end ≡ refused_words refusing fault
