use Rattle.std.proofs.Common.{◌≡◌, map, take}
use Rattle.serde_json.specs.View.{view}
use Rattle.json_report.specs.Answer.{text_data}
use Rattle.json_report.proofs.values.texts_value.Given as goal

-- the values so far are those of the parts so far
abbrev pub invariant-loop-text : goal.invariant-loop-text
invariant-loop-text l = map view l.values.items ≡ map text_data (take l.text-index l.texts)
