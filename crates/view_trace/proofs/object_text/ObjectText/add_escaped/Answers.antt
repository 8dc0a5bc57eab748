use Rattle.std.proofs.Common.{sym, ◌∙◌}
use Rattle.view_trace.proofs.Plain.{plain_text}
use Rattle.view_trace.proofs.object_text.ObjectText.add_escaped.Goals as goal

-- none of its characters is escaped
pub returns : goal.returns
returns c = rw (plain_text c.args.text.now (sym c.has_escape.ensures ∙ c.if-has_escape.false)) c.put.ensures
