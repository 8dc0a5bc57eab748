use Rattle.std.proofs.Common.{◌≡◌, ◌∙◌, List, Ok, ap, refl, subst, sym, inr, option_map}
use Rattle.report.specs.Answers.{Given}
use Rattle.asked_rules.specs.declared.option.RuleOption.{RuleOption}
use Rattle.asked_rules.specs.Options.{in_order}
use Rattle.asked_rules.specs.Reading.{said_file, without_key}
use Rattle.asked_rules.specs.Asked.{SayBoth, rules_given}
use Rattle.user_rules.specs.Remembered.{required_by}
use Rattle.shown_run.specs.Files.{given_of}
use Rattle.shown_run.proofs.files.Opened.show.Goals as goal

pub returns : goal.returns
returns g c =
    let given : Given = given_of (λ source. g.S.TextSource.remaining source) g.S.TextSource.can_fail c.args.self in
    let asked = c.args.asked.now in
    let text = option_map (λ text. text.items) c.args.self.rules in
    let same : option_map (λ text. text.now) c.as_deref-rules_text.result ≡ text = c.as_deref-rules_text.ensures.value in
    let file = said_file c.in-Ok.file in
    let memories = c.in-Ok.file.memories.items in
    let read : rules_given text ≡ Ok file = ap rules_given (sym same) ∙ ap (λ walked. without_key walked) c.in-Ok.ensures in
    let options : c.in-Ok-in_order.options.items ≡ in_order asked.options = c.in-Ok-in_order.ensures in
    let say : SayBoth (in_order asked.options) file.rules c.in-Ok-all_relations.relations.items =
    subst (λ (list : List RuleOption). SayBoth list file.rules c.in-Ok-all_relations.relations.items) options
    (rw (c.deref.ensures.value, c.deref-2.ensures.value) at c.in-Ok-all_relations.ensures) in
    let relations = c.in-Ok-all_relations.relations.items in
    inr (rw read (
      required_by memories relations,
      record { memories = memories; relations = relations; required = refl; remember = refl; say = say },
      λ settings none. rw c.deref-5.ensures.value at c.show_under.ensures settings none,
    ))
