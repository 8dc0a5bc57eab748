use Rattle.std.proofs.Common.{rules, ◌≡◌, ◌∙◌, [], false, Some, map, refl, subst}
use Rattle.std.specs.Io.Cursor.{cursor_remaining}
use Rattle.report.specs.declared.settings.Settings.{Settings}
use Rattle.report.specs.Answers.{AnswersWith, Given, given_by}
use Rattle.report.specs.Last.{last_lines}
use Rattle.user_rules.specs.Remembered.{required_by}
use Rattle.case_runner.proofs.answering.answer_to.Goals as goal

pub returns : goal.returns
returns g c =
    let relations = c.in_ok-relations.relations.items in
    let outcome = c.check_relations-outcome.result in
    let items = c.check_relations-outcome.new.last in
    let given : Given = given_by c.args.texts.config.now (map (λ reader. cursor_remaining (λ text. Some text.items) reader) c.in_ok-readers.readers.items) false (Some c.args.texts.order.now) false in
    let answers : AnswersWith given (required_by [] relations) c.args.manner.settings outcome items =
    subst (λ (settings : Settings). AnswersWith given (required_by [] relations) settings outcome items) (c.in_rounds-options.ensures.settings ∙ c.new-2.ensures.settings)
    (subst (λ (one : Given). AnswersWith one (required_by [] relations) c.in_rounds-options.result.settings outcome items) c.new-inputs.ensures c.check_relations-outcome.ensures) in
    let written : c.write_last.new.w.taken.items ≡ last_lines items = search rules in
    record {
      relations = relations;
      asked = c.in_ok-relations.ensures;
      outcome = outcome;
      items = items;
      answer = answers (map (λ recording. recording.items) c.args.texts.recordings.now) c.args.texts.order.now c.in_ok-readers.ensures.bytes refl;
      line = c.in_ok-line_of.ensures;
      last = written;
      status = search rules;
    }
