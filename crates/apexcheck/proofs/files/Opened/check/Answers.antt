use Rattle.std.proofs.Common.{◌≡◌, ◌≢◌, ◌∙◌, ℕ, List, Bool, Option, Result, Ok, Err, ap, refl, subst, sym, inl, inr, option_map}
use Rattle.program_ends.specs.declared.ending.Ending.{Ending}
use Rattle.program_ends.specs.Endings.{refused_rules}
use Rattle.report.specs.declared.fault.CheckFault.{CheckFault}
use Rattle.report.specs.declared.last.LastItem.{LastItem}
use Rattle.report.specs.declared.settings.Settings.{Settings}
use Rattle.report.specs.Answers.{Given}
use Rattle.asked_rules.specs.declared.fault.RulesFault.{RulesFault}
use Rattle.asked_rules.specs.declared.fault.RulesFault.TheVariants.{File, Memory, Rule, RuleMemory}
use Rattle.asked_rules.specs.declared.option.RuleOption.{RuleOption}
use Rattle.asked_rules.specs.declared.refusal.RulesRefusal.{RulesRefusal}
use Rattle.asked_rules.specs.Options.{in_order}
use Rattle.asked_rules.specs.Reading.{SaidFile, said_file, without_key}
use Rattle.verdict_merge.specs.declared.verdict.Verdict.{Verdict}
use Rattle.check_result.specs.declared.ending.CheckEnd.{CheckEnd}
use Rattle.check_result.specs.Endings.{end_of_check, refusing}
use Rattle.apexcheck.specs.Files.{given_of}
use Rattle.asked_rules.specs.Asked.{rules_given, walk_given}
use Rattle.apexcheck.specs.Ruled.{AnswersRuled, IsEndingBy, IsRuledEnding, where_asked}
use Rattle.apexcheck.proofs.files.Opened.check.Goals as goal

-- a run ends by the answer under the memories and the rules that its text says
ends : (given : Given) (options : List RuleOption) (text : Option (List ℕ)) (settings : Settings) (least : Option ℕ) (asked : Bool) (file : SaidFile)
    → (outcome : Result Verdict CheckFault) (last : List LastItem) (reported : Option (List LastItem)) (ending : Ending CheckEnd)
    → rules_given text ≡ Ok file → reported ≡ where_asked asked last → ending ≡ end_of_check least outcome reported
    → AnswersRuled given options file settings outcome last → IsRuledEnding given options text settings least asked ending
ends given options text settings least asked file outcome last reported ending read same by is =
    inr (rw read (outcome, last, by ∙ ap (end_of_check least outcome) same, is))

-- a run ends by the first refusal of its rules file
refused : (given : Given) (options : List RuleOption) (text : Option (List ℕ)) (settings : Settings) (least : Option ℕ) (asked : Bool) (refusal : RulesRefusal) (ending : Ending CheckEnd)
    → (refusal.fault ≢ Memory → walk_given text ≡ Err refusal) → ending ≡ refused_rules refusing refusal.fault → IsRuledEnding given options text settings least asked ending
refused given options text settings least asked refusal ending walked is = by refusal.fault refl walked is
  where
    first : (fault : RulesFault) → refusal.fault ≡ fault → walk_given text ≡ Err refusal → ending ≡ refused_rules refusing fault → IsRuledEnding given options text settings least asked ending
    first fault same walk is =
        let here : rules_given text ≡ Err fault = ap without_key walk ∙ ap Err same in
        inr (subst (λ (found : Result SaidFile RulesFault). IsEndingBy found given options settings least asked ending) (sym here) is)

    by : (fault : RulesFault) → refusal.fault ≡ fault → (fault ≢ Memory → walk_given text ≡ Err refusal) → ending ≡ refused_rules refusing fault
        → IsRuledEnding given options text settings least asked ending
    by Memory same walk is = inl is
    by (File which) same walk is = first (File which) same (walk (λ memory. cc)) is
    by (RuleMemory number which) same walk is = first (RuleMemory number which) same (walk (λ memory. cc)) is
    by (Rule number which) same walk is = first (Rule number which) same (walk (λ memory. cc)) is

pub returns-in-Err : goal.returns-in-Err
returns-in-Err g c =
    let asked = c.args.asked.now in
    refused (given_of (λ source. g.S.TextSource.remaining source) g.S.TextSource.can_fail c.args.self) (in_order asked.options) (option_map (λ text. text.items) c.args.self.rules)
    asked.settings asked.at_least asked.last c.in-Err.refusal c.refused_rules.result
    (λ other. ap walk_given (sym c.as_deref-rules_text.ensures.value) ∙ c.in-Err.ensures other) c.refused_rules.ensures

pub returns : goal.returns
returns g c =
    let given : Given = given_of (λ source. g.S.TextSource.remaining source) g.S.TextSource.can_fail c.args.self in
    let asked = c.args.asked.now in
    let text = option_map (λ text. text.items) c.args.self.rules in
    let same : option_map (λ text. text.now) c.as_deref-rules_text.result ≡ text = c.as_deref-rules_text.ensures.value in
    let file = said_file c.in-Ok-read_rules.file in
    let outcome = c.check_ruled-outcome.result in
    let last = c.check_ruled-outcome.new.last in
    let answers : AnswersRuled given c.in-Ok.options.items file asked.settings outcome last =
    rw (c.new-inputs.ensures, c.deref.ensures.value, c.deref-2.ensures.value) at (c.check_ruled-outcome.ensures c.in-Ok-new.ensures) in
    ends given (in_order asked.options) text asked.settings asked.at_least asked.last file outcome last c.where_asked.result c.end_of_check.result
    (ap rules_given (sym same) ∙ ap (λ walked. without_key walked) c.in-Ok-read_rules.ensures) c.where_asked.ensures c.end_of_check.ensures
    (subst (λ (options : List RuleOption). AnswersRuled given options file asked.settings outcome last) c.in-Ok.ensures answers)
