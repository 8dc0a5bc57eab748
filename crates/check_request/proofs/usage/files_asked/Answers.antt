-- Each part is read of what the parser found, and that is what the words give.
use Rattle.std.proofs.Common.{◌≡◌, inl, inr, map, rules, string_bytes}
use Rattle.program_ends.specs.declared.refused.UsageFault.TheVariants.{Usage}
use Rattle.check_request.specs.Wrong.{IsWrong}
use Rattle.check_request.proofs.Requested.{asks_for, lacks_files, lacks_least, lacks_options, lacks_settings, of_error}
use Rattle.check_request.proofs.usage.files_asked.Goals as goal

pub returns : goal.returns
returns c = record {
  asked = asks_for c.in_ok-matches.matches _ c.in_ok-matches.ensures.found _ c.in_ok-file_names.ensures.named c.in_ok-name_asked.ensures.named c.in_ok-name_asked-2.ensures.named c.in_ok-name_asked-3.ensures.named (search rules) (search rules) (search rules)
      (record { is_given = c.asks_last.ensures.given; is_not = c.asks_last.ensures.not_given; is_unknown = c.asks_last.ensures.none })
      (record { is_given = c.asks_quiet.ensures.given; is_not = c.asks_quiet.ensures.not_given; is_unknown = c.asks_quiet.ensures.none });
  refused = tt;
}

pub returns-in_err-matches-clause-refused : goal.returns-in_err-matches-clause-refused
returns-in_err-matches-clause-refused c =
    let wrong : c.in_err-matches.field-0.0 ≡ Usage → IsWrong (map string_bytes c.args.words.now) = λ usage. inl (c.in_err-matches.ensures.refused usage) in
    of_error _ _ (λ fault same. rw same wrong) c.from_residual.result c.from_residual.ensures.1

pub returns-in_err-file_names-clause-refused : goal.returns-in_err-file_names-clause-refused
returns-in_err-file_names-clause-refused c =
    let wrong : c.in_err-file_names.field-0.0 ≡ Usage → IsWrong (map string_bytes c.args.words.now) =
    λ usage. inr (lacks_files c.in_ok-matches.matches _ c.in_ok-matches.ensures.found (c.in_err-file_names.ensures.refused usage)) in
    of_error _ _ (λ fault same. rw same wrong) c.from_residual-in_err-file_names.result c.from_residual-in_err-file_names.ensures.1

pub returns-in_err-name_asked-clause-refused : goal.returns-in_err-name_asked-clause-refused
returns-in_err-name_asked-clause-refused c =
    let wrong : c.in_err-name_asked.field-0.0 ≡ Usage → IsWrong (map string_bytes c.args.words.now) = λ usage. absurd (c.in_err-name_asked.ensures.refused usage) in
    of_error _ _ (λ fault same. rw same wrong) c.from_residual-in_err-name_asked.result c.from_residual-in_err-name_asked.ensures.1

pub returns-in_err-name_asked-2-clause-refused : goal.returns-in_err-name_asked-2-clause-refused
returns-in_err-name_asked-2-clause-refused c =
    let wrong : c.in_err-name_asked-2.field-0.0 ≡ Usage → IsWrong (map string_bytes c.args.words.now) = λ usage. absurd (c.in_err-name_asked-2.ensures.refused usage) in
    of_error _ _ (λ fault same. rw same wrong) c.from_residual-in_err-name_asked-2.result c.from_residual-in_err-name_asked-2.ensures.1

pub returns-in_err-name_asked-3-clause-refused : goal.returns-in_err-name_asked-3-clause-refused
returns-in_err-name_asked-3-clause-refused c =
    let wrong : c.in_err-name_asked-3.field-0.0 ≡ Usage → IsWrong (map string_bytes c.args.words.now) = λ usage. absurd (c.in_err-name_asked-3.ensures.refused usage) in
    of_error _ _ (λ fault same. rw same wrong) c.from_residual-in_err-name_asked-3.result c.from_residual-in_err-name_asked-3.ensures.1

pub returns-in_err-rule_options-clause-refused : goal.returns-in_err-rule_options-clause-refused
returns-in_err-rule_options-clause-refused c =
    let wrong : c.in_err-rule_options.field-0.0 ≡ Usage → IsWrong (map string_bytes c.args.words.now) =
    λ usage. inr (lacks_options c.in_ok-matches.matches _ c.in_ok-matches.ensures.found _ c.in_err-rule_options.ensures) in
    of_error _ _ (λ fault same. rw same wrong) c.from_residual-in_err-rule_options.result c.from_residual-in_err-rule_options.ensures.1

pub returns-in_err-settings_asked-clause-refused : goal.returns-in_err-settings_asked-clause-refused
returns-in_err-settings_asked-clause-refused c =
    let wrong : c.in_err-settings_asked.field-0.0 ≡ Usage → IsWrong (map string_bytes c.args.words.now) =
    λ usage. inr (lacks_settings c.in_ok-matches.matches _ c.in_ok-matches.ensures.found _ c.in_err-settings_asked.ensures) in
    of_error _ _ (λ fault same. rw same wrong) c.from_residual-in_err-settings_asked.result c.from_residual-in_err-settings_asked.ensures.1

pub returns-in_err-least_asked-clause-refused : goal.returns-in_err-least_asked-clause-refused
returns-in_err-least_asked-clause-refused c =
    let wrong : c.in_err-least_asked.field-0.0 ≡ Usage → IsWrong (map string_bytes c.args.words.now) =
    λ usage. inr (lacks_least c.in_ok-matches.matches _ c.in_ok-matches.ensures.found _ c.in_err-least_asked.ensures) in
    of_error _ _ (λ fault same. rw same wrong) c.from_residual-in_err-least_asked.result c.from_residual-in_err-least_asked.ensures.1
