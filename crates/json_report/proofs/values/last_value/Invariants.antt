use Rattle.std.proofs.Common.{◌≡◌, map, take}
use Rattle.serde_json.specs.View.{view}
use Rattle.json_report.specs.Answer.{record_data}
use Rattle.json_report.proofs.values.last_value.Given as goal

-- the values so far are those of the parts so far
abbrev pub invariant-loop-before : goal.invariant-loop-before
invariant-loop-before l = map view l.values.items ≡ map record_data (take l.before-index l.records)
