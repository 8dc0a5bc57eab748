use Rattle.std.proofs.Common.{◌≡◌, map, take}
use Rattle.serde_json.specs.View.{view}
use Rattle.json_report.specs.Answer.{input_data}
use Rattle.json_report.proofs.values.inputs_value.Given as goal

-- the values so far are those of the parts so far
abbrev pub invariant-loop-input : goal.invariant-loop-input
invariant-loop-input l = map view l.values.items ≡ map input_data (take l.input-index l.inputs)
