use Rattle.view_trace.proofs.Traces.{others_none, others_then}
use Rattle.view_trace.proofs.boards.Boards.end_shown.Goals as goal

pub loop-board-init : goal.loop-board-init
loop-board-init g c = others_none _

pub loop-board-preserved : goal.loop-board-preserved
loop-board-preserved g c = others_then c.loop-board.invariant c.in_ok-end_if_open.ensures
