-- How a run over opened texts ends.
use Rattle.std.proofs.Common.{◌≡◌, ◌≢◌, ◌∙◌, ℕ, List, Option, Some, Result, Ok, Err, length, map, option_map, refl, sym, ap, subst, inl, inr}
use Rattle.apex_machine.specs.Configuration.{Configuration}
use Rattle.module_config.specs.Reading.{configuration_of}
use Rattle.program_ends.specs.declared.ending.Ending.{Ending}
use Rattle.program_ends.specs.Endings.{out_of_memory, refused_rules}
use Rattle.record_read.specs.Row.{records_of}
use Rattle.asked_rules.specs.declared.option.RuleOption.{RuleOption}
use Rattle.asked_rules.specs.Options.{in_order}
use Rattle.asked_rules.specs.declared.fault.RulesFault.{RulesFault}
use Rattle.asked_rules.specs.declared.fault.RulesFault.TheVariants.{File, Memory, Rule, RuleMemory}
use Rattle.asked_rules.specs.declared.refusal.RulesRefusal.{RulesRefusal}
use Rattle.asked_rules.specs.Reading.{SaidFile, without_key}
use Rattle.apexorder.specs.declared.ending.OrderEnd.{OrderEnd}
use Rattle.apexorder.specs.declared.files.Opened.{Opened}
use Rattle.apexorder.specs.declared.usage.OrderAsked.{OrderAsked}
use Rattle.apexorder.specs.Endings.{EndsSearch, HasReceived, refusing}
use Rattle.apexorder.specs.Files.{EndsAsAsked, rules_text}
use Rattle.asked_rules.specs.Asked.{rules_given, walk_given}
use Rattle.apexorder.specs.Ruled.{IsCertified}
use Rattle.apexorder.proofs.Searched.{memory_ends}
use Rattle.apexorder.proofs.Written.{none_received}

module _ {S : Type 0} (known : S → Option (List ℕ)) (opened : Opened S) (asked : OrderAsked) where
  -- memory was refused before the first row
  pub memory_ended : (bytes : Option (List ℕ)) (end : Ending OrderEnd) → end ≡ out_of_memory refusing → EndsAsAsked known opened asked bytes bytes end
  memory_ended bytes end is = record {
    rows = none_received (configuration_of opened.text.items) (map (λ source. option_map records_of (known source)) opened.cores.items) bytes;
    refused = λ fault given. (inl is, refl);
    ended = λ file given. memory_ends (configuration_of opened.text.items) (length opened.cores.items) end is;
    certified = λ configuration texts file read sources given. inl is;
  }

  -- the rules file is refused
  pub refused_ended : (bytes : Option (List ℕ)) (end : Ending OrderEnd) (refusal : RulesRefusal) → (refusal.fault ≢ Memory → walk_given (rules_text opened) ≡ Err refusal)
      → end ≡ refused_rules refusing refusal.fault → EndsAsAsked known opened asked bytes bytes end
  refused_ended bytes end refusal walked is = by refusal.fault refl walked is
    where
      first : (fault : RulesFault) → refusal.fault ≡ fault → walk_given (rules_text opened) ≡ Err refusal → end ≡ refused_rules refusing fault → EndsAsAsked known opened asked bytes bytes end
      first fault same walked is =
          let here : rules_given (rules_text opened) ≡ Err fault = ap without_key walked ∙ ap Err same in
          record {
            rows = none_received (configuration_of opened.text.items) (map (λ source. option_map records_of (known source)) opened.cores.items) bytes;
            refused = λ other given. let one : fault ≡ other = cc in (inr (is ∙ ap (refused_rules refusing) one), refl);
            ended = λ file given. let none : ◌≡◌ {A = Result SaidFile RulesFault} (Err fault) (Ok file) = sym here ∙ given in cc;
            certified = λ configuration texts file read sources given. let none : ◌≡◌ {A = Result SaidFile RulesFault} (Err fault) (Ok file) = sym here ∙ given in cc;
          }

      by : (fault : RulesFault) → refusal.fault ≡ fault → (fault ≢ Memory → walk_given (rules_text opened) ≡ Err refusal) → end ≡ refused_rules refusing fault
          → EndsAsAsked known opened asked bytes bytes end
      by Memory same walked is = memory_ended bytes end is
      by (File which) same walked is = first (File which) same (walked (λ memory. cc)) is
      by (RuleMemory number which) same walked is = first (RuleMemory number which) same (walked (λ memory. cc)) is
      by (Rule number which) same walked is = first (Rule number which) same (walked (λ memory. cc)) is

  -- the search over the opened texts ends it
  pub search_ended : (before after : Option (List ℕ)) (end : Ending OrderEnd) (found : SaidFile) (options : List RuleOption)
      → rules_given (rules_text opened) ≡ Ok found → options ≡ in_order asked.options
      → HasReceived (configuration_of opened.text.items) (map (λ source. option_map records_of (known source)) opened.cores.items) before after
      → EndsSearch (configuration_of opened.text.items) (length opened.cores.items) end
      → ((configuration : Configuration) (texts : List (List ℕ)) → configuration_of opened.text.items ≡ Ok configuration → map known opened.cores.items ≡ map Some texts
      → IsCertified configuration options found texts before after end)
      → EndsAsAsked known opened asked before after end
  search_ended before after end found options here same rows ended certified = record {
    rows = rows;
    refused = λ fault given. let none : ◌≡◌ {A = Result SaidFile RulesFault} (Ok found) (Err fault) = sym here ∙ given in cc;
    ended = λ file given. ended;
    certified = λ configuration texts file read sources given.
        let one : found ≡ file = cc in
        subst (λ all. IsCertified configuration (in_order asked.options) all texts before after end) one
        (subst (λ list. IsCertified configuration list found texts before after end) same (certified configuration texts read sources));
  }
