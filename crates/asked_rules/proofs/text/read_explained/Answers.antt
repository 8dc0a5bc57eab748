use Rattle.std.proofs.Common.{◌≡◌, ◌∙◌, List, ℕ, Err, None, false, length, nat_lt, ap, arith, refl, inl, inr}
use Rattle.std.specs.Prelude.{IsUtf8}
use Rattle.std.specs.Str.{is_utf8}
use Rattle.std.proofs.lemmas.Bool.{cases_Bool}
use Rattle.std.proofs.lemmas.Bool.Decides.{nat_tests}
use Rattle.std.proofs.lemmas.Str.{is_utf8-from_IsUtf8, IsUtf8-from_is_utf8}
use Rattle.toml.specs.Errors.{IsMemory}
use Rattle.toml.specs.Parse.{parse_document}
use Rattle.apex_types.specs.declared.limits.TheConstants.{LONGEST_RULES_FILE}
use Rattle.asked_rules.specs.declared.fault.RuleFault.TheVariants.{NotToml}
use Rattle.asked_rules.specs.declared.fault.RulesFault.TheVariants.{File}
use Rattle.asked_rules.specs.Reading.{document_of, keyless, rules_in}
use Rattle.asked_rules.proofs.text.read_explained.Goals as goal

pub returns-in-Ok-clause-value : goal.returns-in-Ok-clause-value
returns-in-Ok-clause-value c =
    let few : nat_lt LONGEST_RULES_FILE (length c.args.text.now) ≡ false = grind (arith, nat_tests) in
    rw (few, is_utf8-from_IsUtf8 c.args.text.now c.in-Ok.ensures.ok.0, c.in-Ok.ensures.ok.1) c.rules_under.ensures.value

-- a text that is no table is not TOML
no_table : (text : List ℕ) → (IsUtf8 text → parse_document text ≡ None) → rules_in (document_of text) ≡ Err (keyless (File NotToml))
no_table text refused = elim (cases_Bool (is_utf8 text)) [
  | inl is ↦ rw (is, refused (IsUtf8-from_is_utf8 text is)) refl
  | inr is ↦ rw is refl
]

pub returns-in-Err-clause-value : goal.returns-in-Err-clause-value
returns-in-Err-clause-value c =
    let made : c.keyless-in-Err.result ≡ keyless c.text_fault.result = c.keyless-in-Err.ensures in λ other.
    let not_memory = λ (is : IsMemory c.in-Err.fault). other (ap (λ refusal. refusal.fault) made ∙ c.text_fault.ensures.memory.1 is) in
    let few : nat_lt LONGEST_RULES_FILE (length c.args.text.now) ≡ false = grind (arith, nat_tests) in
    rw (made, c.text_fault.ensures.not_toml.1 not_memory, few) (no_table c.args.text.now (c.in-Err.ensures.refused not_memory))
