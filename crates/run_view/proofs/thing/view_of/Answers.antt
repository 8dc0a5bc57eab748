use Rattle.run_view.proofs.Showing.{thing_in, thing_nowhere}
use Rattle.run_view.proofs.thing.view_of.Goals as goal

pub returns-in-Some : goal.returns-in-Some
returns-in-Some c = thing_in c.args.key.now c.args.pieces.now _ c.view_in.result c.in-Some.ensures c.view_in.ensures

pub returns-in-None : goal.returns-in-None
returns-in-None c = thing_nowhere c.args.key.now c.args.pieces.now c.in-None.ensures
