-- An object is in the part of its partition.
use Rattle.run_view.proofs.Showing.{object_in}
use Rattle.run_view.proofs.thing.object_view.Goals as goal

pub returns-in-Partition : goal.returns-in-Partition
returns-in-Partition c =
    λ part. object_in c.args.piece.now.part _ _ c.in-Partition.state part c.args.kind c.args.number c.thing_view.result c.in-Partition.ensures c.thing_view.ensures
