use Rattle.std.proofs.Common.{sym, ap, ◌∙◌}
use Rattle.std.specs.List.{list_any}
use Rattle.std.proofs.lemmas.Bool.{OnTrue_at}
use Rattle.view_trace.specs.Escapes.{is_escaped}
use Rattle.view_trace.proofs.Plain.{none_escaped}
use Rattle.view_trace.proofs.escapes.has_escape.Goals as goal

pub returns-then-is_plain : goal.returns-then-is_plain
returns-then-is_plain c =
    sym (none_escaped c.as_bytes-bytes.result.now (OnTrue_at c.if-is_plain.true c.is_plain.ensures)) ∙ ap (list_any is_escaped) c.as_bytes-bytes.ensures.value
