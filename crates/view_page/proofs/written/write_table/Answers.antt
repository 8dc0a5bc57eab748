use Rattle.std.proofs.Common.{rules}
use Rattle.view_page.proofs.Sent.{ends_after, sends_then}
use Rattle.view_page.proofs.written.write_table.Goals as goal

pub returns-in_err-put : goal.returns-in_err-put
returns-in_err-put g c = ends_after _ _ _ _ c.loop-strip.invariant (search rules)

pub loop-strip-preserved : goal.loop-strip-preserved
loop-strip-preserved g c = sends_then c.loop-strip.invariant c.in_ok-put.ensures.ends
