-- A text that is cut one byte after the longest configures what the whole text does, and says the rules that it does.
use Rattle.std.proofs.Common.{◌≡◌, ◌+◌, ◌⊎◌, inl, inr, ℕ, List, [], ◌++◌, length, take, true, nat_lt, Option, Some, None, option_map, IfSome, Err, ap, sym, ◌∙◌, lt-ltb, take_all, length-take-le, arith, refl}
use Rattle.std.proofs.lemmas.Bool.Decides.{leb_tells}
use Rattle.apex_types.specs.declared.limits.TheConstants.{LONGEST_CONFIGURATION}
use Rattle.module_config.specs.Reading.{configuration_of}
use Rattle.module_config.specs.declared.fault.ConfigFault.TheVariants as config
use Rattle.asked_rules.specs.Reading.{rules_of}
use Rattle.asked_rules.specs.declared.fault.RuleFault.TheVariants as rule
use Rattle.asked_rules.specs.declared.fault.RulesFault.TheVariants as rules

-- a text that is no longer than a limit stays whole, and a longer one stays longer
whole_or_longer : (limit : ℕ) (text : List ℕ)
    → (take (limit + 1) text ≡ text) ⊎ ((nat_lt limit (length (take (limit + 1) text)) ≡ true) × (nat_lt limit (length text) ≡ true))
whole_or_longer limit text = elim (leb_tells (length text) limit) [
  | inl (test, within) ↦ inl (take_all (limit + 1) text (omega arith))
  | inr (test, longer) ↦
      let cut = length-take-le (limit + 1) text (omega arith) in
      inr (lt-ltb limit (length (take (limit + 1) text)) (omega (arith, cut)), lt-ltb limit (length text) longer)
]

-- if all longer texts are read alike, a text that is cut after the longest is read as the whole one
cut_reads : {A : Type 0} (reading : List ℕ → A) (refusal : A) → ((text : List ℕ) → nat_lt LONGEST_CONFIGURATION (length text) ≡ true → reading text ≡ refusal)
    → (text : List ℕ) → reading (take (LONGEST_CONFIGURATION + 1) text) ≡ reading text
cut_reads reading refusal refused text = elim (whole_or_longer LONGEST_CONFIGURATION text) [
  | inl whole ↦ ap reading whole
  | inr (cut, longer) ↦ refused (take (LONGEST_CONFIGURATION + 1) text) cut ∙ sym (refused text longer)
]

-- what was read from a reader that is cut, if its bytes are known
pub first_read : (known : Option (List ℕ)) (limit : ℕ) (before after : List ℕ) → before ≡ []
    → IfSome (option_map (take limit) known) (λ text. after ≡ before ++ text) → IfSome known (λ text. after ≡ take limit text)
first_read None limit before after none read = tt
first_read (Some text) limit before after none read = read ∙ ap (λ l. l ++ take limit text) none

same_reading : {A : Type 0} (reading : List ℕ → A) → ((text : List ℕ) → reading (take (LONGEST_CONFIGURATION + 1) text) ≡ reading text)
    → (known : Option (List ℕ)) (after : List ℕ) → IfSome known (λ text. after ≡ take (LONGEST_CONFIGURATION + 1) text) → IfSome known (λ text. reading after ≡ reading text)
same_reading reading cut None after first = tt
same_reading reading cut (Some text) after first = ap reading first ∙ cut text

long_configuration : (text : List ℕ) → nat_lt LONGEST_CONFIGURATION (length text) ≡ true → configuration_of text ≡ Err config.TooMany
long_configuration text longer = rw longer refl

pub same_configuration : (known : Option (List ℕ)) (after : List ℕ)
    → IfSome known (λ text. after ≡ take (LONGEST_CONFIGURATION + 1) text) → IfSome known (λ text. configuration_of after ≡ configuration_of text)
same_configuration = same_reading configuration_of (cut_reads configuration_of (Err config.TooMany) long_configuration)

long_rules : (text : List ℕ) → nat_lt LONGEST_CONFIGURATION (length text) ≡ true → rules_of text ≡ Err (rules.File rule.TooMany)
long_rules text longer = rw longer refl

pub same_rules : (known : Option (List ℕ)) (after : List ℕ) → IfSome known (λ text. after ≡ take (LONGEST_CONFIGURATION + 1) text) → IfSome known (λ text. rules_of after ≡ rules_of text)
same_rules = same_reading rules_of (cut_reads rules_of (Err (rules.File rule.TooMany)) long_rules)
