use Rattle.std.proofs.Common.{◌≡◌, map, take}
use Rattle.serde_json.specs.View.{view}
use Rattle.json_report.specs.Answer.{sentence_data}
use Rattle.json_report.proofs.values.sentences_value.Given as goal

-- the values so far are those of the parts so far
abbrev pub invariant-loop-sentence : goal.invariant-loop-sentence
invariant-loop-sentence l = map view l.values.items ≡ map sentence_data (take l.sentence-index l.sentences)
