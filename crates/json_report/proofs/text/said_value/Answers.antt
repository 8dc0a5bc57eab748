use Rattle.std.proofs.Common.{◌∙◌}
use Rattle.std.proofs.lemmas.Result.{IfOk-weaker}
use Rattle.json_report.proofs.Parts.{said_is}
use Rattle.json_report.proofs.text.said_value.Goals as goal

pub returns : goal.returns
returns c =
    let digested = c.as_str.ensures.value ∙ c.in_ok-digest.ensures in
    IfOk-weaker c.said_with.result _ _ (λ value said. said ∙ said_is c.args.answer.now c.as_str.result.now digested) c.said_with.ensures
