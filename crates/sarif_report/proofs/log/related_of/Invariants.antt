use Rattle.std.proofs.Common.{◌≡◌, map, take}
use Rattle.serde_json.specs.View.{view}
use Rattle.sarif_report.specs.Log.{all_earlier}
use Rattle.sarif_report.proofs.log.related_of.Given as goal

-- the records so far were added
abbrev pub invariant-loop-id : goal.invariant-loop-id
invariant-loop-id l = map view l.related.items ≡ all_earlier 0 (take l.id l.earlier)
