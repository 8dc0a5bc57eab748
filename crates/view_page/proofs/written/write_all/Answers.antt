use Rattle.std.proofs.Common.{rules}
use Rattle.view_page.proofs.Sent.{ends_after, sends_then}
use Rattle.view_page.proofs.written.write_all.Goals as goal

pub returns-in_err-write_piece : goal.returns-in_err-write_piece
returns-in_err-write_piece g c = ends_after _ _ _ _ c.loop-strip.invariant (search rules)

pub loop-strip-preserved : goal.loop-strip-preserved
loop-strip-preserved g c = sends_then c.loop-strip.invariant c.in_ok-write_piece.ensures
