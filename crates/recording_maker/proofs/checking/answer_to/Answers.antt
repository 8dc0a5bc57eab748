use Rattle.std.proofs.Common.{[], false, Some, map, refl, subst}
use Rattle.std.specs.Io.Cursor.{cursor_remaining}
use Rattle.report.specs.Answers.{AnswersWith, Given, given_by}
use Rattle.user_rules.specs.Remembered.{required_by}
use Rattle.recording_maker.proofs.checking.answer_to.Goals as goal

pub returns : goal.returns
returns g c =
    let outcome = c.check_inputs.result in
    let items = c.check_inputs.new.last in
    let given : Given = given_by c.args.config.now (map (λ reader. cursor_remaining (λ text. Some text.items) reader) c.in_ok-readers.readers.items) false (Some c.args.certificate.now) false in
    record {
      settings = c.new-options.result.settings;
      last = items;
      answer = subst (λ (one : Given). AnswersWith one (required_by [] []) c.new-options.result.settings outcome items) c.new-inputs.ensures c.check_inputs.ensures (map (λ recording. recording.items) c.args.recordings.now) c.args.certificate.now c.in_ok-readers.ensures.bytes refl;
    }
