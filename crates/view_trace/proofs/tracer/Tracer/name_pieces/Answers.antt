use Rattle.view_trace.proofs.Traces.{others_none, others_then}
use Rattle.view_trace.proofs.tracer.Tracer.name_pieces.Goals as goal

pub loop-piece-init : goal.loop-piece-init
loop-piece-init g c = others_none _

pub loop-piece-preserved : goal.loop-piece-preserved
loop-piece-preserved g c = others_then c.loop-piece.invariant c.in_ok-name_piece.ensures
