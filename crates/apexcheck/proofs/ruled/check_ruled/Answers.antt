use Rattle.std.proofs.Common.{inr, refl, subst}
use Rattle.report.specs.declared.settings.Settings.{Settings}
use Rattle.report.specs.Answers.{AnswersWith}
use Rattle.user_rules.specs.Remembered.{required_by}
use Rattle.apexcheck.proofs.ruled.check_ruled.Goals as goal

pub returns : goal.returns
returns g c = λ none.
    let memories = c.args.file.now.memories.items in
    let relations = c.in-Ok.relations.items in
    inr (
      required_by memories relations,
      record { memories = memories; relations = relations; required = refl; remember = refl; say = rw c.deref.ensures.value at c.in-Ok.ensures },
      subst (λ (settings : Settings). AnswersWith c.args.inputs (required_by memories relations) settings c.check_relations.result c.check_relations.new.last) c.new-options.ensures.settings
          (rw c.deref-2.ensures.value at c.check_relations.ensures),
    )
