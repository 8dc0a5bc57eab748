use Rattle.std.proofs.Common.{◌≡◌, map, take}
use Rattle.serde_json.specs.View.{view}
use Rattle.json_report.specs.Answer.{place_data}
use Rattle.json_report.proofs.values.places_value.Given as goal

-- the values so far are those of the parts so far
abbrev pub invariant-loop-place : goal.invariant-loop-place
invariant-loop-place l = map view l.values.items ≡ map place_data (take l.place-index l.places)
