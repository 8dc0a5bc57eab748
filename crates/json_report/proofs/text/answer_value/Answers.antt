use Rattle.std.proofs.Common.{◌∙◌}
use Rattle.serde_json.specs.View.{members_view}
use Rattle.json_report.proofs.Parts.{answer_is}
use Rattle.json_report.proofs.text.answer_value.Goals as goal

pub returns : goal.returns
returns c =
    let head = members_view c.in_ok-head.head.members.entries in
    let told = members_view c.in_ok-told.told.members.entries in
    let whole = members_view c.in_ok-whole.whole.members.entries in
    c.value.ensures ∙ answer_is c.args.answer.now head told whole c.in_ok-head.ensures c.in_ok-told.ensures c.in_ok-whole.ensures
