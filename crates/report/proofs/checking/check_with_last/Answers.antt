use Rattle.std.proofs.Common.{map, subst}
use Rattle.report.specs.declared.settings.Settings.{Settings}
use Rattle.report.specs.Answers.{AnswersWith, Given, given_by}
use Rattle.user_rules.specs.Rules.{required_of}
use Rattle.report.proofs.checking.check_with_last.Goals as goal

pub returns : goal.returns
returns g c =
    let required = required_of c.args.memories.now c.args.rules.now in
    let given : Given = given_by c.args.config.now (map (λ reader. g.R.TextSource.remaining reader) c.args.readers.items) g.R.TextSource.can_fail (g.C.TextSource.remaining c.args.cert) g.C.TextSource.can_fail in
    subst (λ (settings : Settings). AnswersWith given required settings c.check_inputs.result c.check_inputs.new.last) c.new-options.ensures.settings
    (subst (λ (one : Given). AnswersWith one required c.new-options.result.settings c.check_inputs.result c.check_inputs.new.last) c.new-inputs.ensures c.check_inputs.ensures)
