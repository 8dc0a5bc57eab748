-- What is seen and found of each part.
use Rattle.run_view.proofs.SeenParts.{found_in_channel, found_in_module, found_in_partition, sees_channel, sees_module, sees_partition}
use Rattle.run_view.proofs.last_seen.SeenPiece.look_at.Goals as goal

pub returns-in-Module : goal.returns-in-Module
returns-in-Module c = record {
  seen = sees_module c.args.config.now c.args.piece.now.part _ _ c.look_at_cores.result c.in-Module.ensures c.look_at_cores.ensures.seen;
  changes = found_in_module c.args.piece.now.part _ _ _ c.look_at_cores.result _ _ c.in-Module.ensures c.look_at_cores.ensures.changes;
}

pub returns-in-Partition : goal.returns-in-Partition
returns-in-Partition c = record {
  seen = sees_partition c.args.config.now c.args.piece.now.part _ _ _ _ c.look_at_partition.result c.in-Partition.ensures c.look_at_partition.ensures.seen;
  changes = found_in_partition c.args.piece.now.part _ _ _ _ _ c.look_at_partition.result _ _ c.in-Partition.ensures c.look_at_partition.ensures.changes;
}

pub returns-in-Channel : goal.returns-in-Channel
returns-in-Channel c = record {
  seen = sees_channel c.args.config.now c.args.piece.now.part _ _ _ c.look_at_channel.result c.in-Channel.ensures c.look_at_channel.ensures.seen;
  changes = found_in_channel c.args.piece.now.part _ _ _ _ c.look_at_channel.result _ _ c.in-Channel.ensures c.look_at_channel.ensures.changes;
}
