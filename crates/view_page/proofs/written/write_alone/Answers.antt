use Rattle.std.proofs.Common.{rules}
use Rattle.view_page.proofs.Sent.{ends_after, sends_then}
use Rattle.view_page.proofs.written.write_alone.Goals as goal

pub returns-in_err-put-2 : goal.returns-in_err-put-2
returns-in_err-put-2 g c = ends_after _ _ _ _ c.loop-strip.invariant (search rules)

pub loop-strip-preserved : goal.loop-strip-preserved
loop-strip-preserved g c = sends_then c.loop-strip.invariant c.in_ok-put-2.ensures.ends
