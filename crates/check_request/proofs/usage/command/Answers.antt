-- Each argument adds its rule to those before it.
use Rattle.std.proofs.Common.{◌≡◌, ◌∙◌, ap, ap₂, codes, false, true}
use Rattle.std.proofs.lemmas.Result.{IfOk-weaker}
use Rattle.clap.specs.Simple.{app_of, app_of_fields, with_rule}
use Rattle.clap.specs.Walk.{rule_of}
use Rattle.clap.specs.declared.builder.arg.Arg.{Arg}
use Rattle.check_request.specs.CommandLine.{no_words, option_of, wanted, without_help}
use Rattle.check_request.proofs.usage.command.Goals as goal

-- a required argument is of its own command alone if it was so before
local : (argument given : Arg) → given ≡ record argument { required = true } → argument.global ≡ false → given.global ≡ false
local argument given is was = ap (λ (given : Arg). given.global) is ∙ was

pub returns : goal.returns
returns c =
    let none : app_of c.disable_help_flag.result ≡ no_words = ap app_of_fields c.disable_help_flag.ensures ∙ ap without_help c.new.ensures.app in
    let config_is : rule_of c.required.result ≡ wanted (option_of (codes "config")) = ap rule_of c.required.ensures ∙ ap wanted c.option.ensures.rule in
    let order_is : rule_of c.required-2.result ≡ wanted (option_of (codes "order")) = ap rule_of c.required-2.ensures ∙ ap wanted c.option-2.ensures.rule in
    let workers_is : rule_of c.required-3.result ≡ wanted (option_of (codes "workers")) = ap rule_of c.required-3.ensures ∙ ap wanted c.option-3.ensures.rule in
    let config = c.in_ok-arg.ensures.shape (local c.option.result c.required.result c.required.ensures c.option.ensures.local) ∙ ap₂ with_rule none config_is in
    let order = c.in_ok-arg-2.ensures.shape (local c.option-2.result c.required-2.result c.required-2.ensures c.option-2.ensures.local) ∙ ap₂ with_rule config order_is in
    let workers = c.in_ok-arg-3.ensures.shape (local c.option-3.result c.required-3.result c.required-3.ensures c.option-3.ensures.local) ∙ ap₂ with_rule order workers_is in
    let depth = c.in_ok-arg-4.ensures.shape c.option-4.ensures.local ∙ ap₂ with_rule workers c.option-4.ensures.rule in
    let elapsed = c.in_ok-arg-5.ensures.shape c.option-5.ensures.local ∙ ap₂ with_rule depth c.option-5.ensures.rule in
    let forbidden = c.in_ok-arg-6.ensures.shape c.option-6.ensures.local ∙ ap₂ with_rule elapsed c.option-6.ensures.rule in
    let ruled = c.in_ok-arg-7.ensures.shape c.option-7.ensures.local ∙ ap₂ with_rule forbidden c.option-7.ensures.rule in
    let least = c.in_ok-arg-8.ensures.shape c.option-8.ensures.local ∙ ap₂ with_rule ruled c.option-8.ensures.rule in
    let last = c.in_ok-arg-9.ensures.shape c.flag.ensures.local ∙ ap₂ with_rule least c.flag.ensures.rule in
    let quiet = c.in_ok-arg-10.ensures.shape c.flag-2.ensures.local ∙ ap₂ with_rule last c.flag-2.ensures.rule in
    let sarif = c.in_ok-arg-11.ensures.shape c.option-9.ensures.local ∙ ap₂ with_rule quiet c.option-9.ensures.rule in
    let root = c.in_ok-arg-12.ensures.shape c.option-10.ensures.local ∙ ap₂ with_rule sarif c.option-10.ensures.rule in
    let json = c.in_ok-arg-13.ensures.shape c.option-11.ensures.local ∙ ap₂ with_rule root c.option-11.ensures.rule in
    IfOk-weaker c.arg-14.result _ _ (λ command added. added.shape c.recordings.ensures.local ∙ ap₂ with_rule json c.recordings.ensures.rule) c.arg-14.ensures
