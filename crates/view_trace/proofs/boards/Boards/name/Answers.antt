use Rattle.view_trace.proofs.Traces.{others_last}
use Rattle.view_trace.proofs.boards.Boards.name.Goals as goal

pub returns : goal.returns
returns g c = others_last _ c.name_thread.result c.in_ok-name_process.ensures c.name_thread.ensures
