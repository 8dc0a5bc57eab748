use Rattle.std.proofs.Common.{◌∙◌, [], map, refl, subst}
use Rattle.report.specs.declared.settings.Settings.{Settings}
use Rattle.report.specs.Answers.{AnswersWith, Given, given_by}
use Rattle.report.proofs.Answering.{want_of_memory}
use Rattle.user_rules.specs.Rules.{required_of}
use Rattle.report.proofs.checking.check_in_rounds.Goals as goal

pub returns-in_default : goal.returns-in_default
returns-in_default g c = ([], λ recordings certificate e is. want_of_memory refl)

pub returns : goal.returns
returns g c =
    let required = required_of c.args.memories.now c.args.rules.now in
    let given : Given = given_by c.args.config.now (map (λ reader. g.R.TextSource.remaining reader) c.args.readers.items) g.R.TextSource.can_fail (g.C.TextSource.remaining c.args.cert) g.C.TextSource.can_fail in (
      c.check_inputs.new.last,
      subst (λ (settings : Settings). AnswersWith given required settings c.check_inputs.result c.check_inputs.new.last) (c.in_rounds-options.ensures.settings ∙ c.new-2.ensures.settings)
          (subst (λ (one : Given). AnswersWith one required c.in_rounds-options.result.settings c.check_inputs.result c.check_inputs.new.last) c.new-inputs.ensures c.check_inputs.ensures),
    )
