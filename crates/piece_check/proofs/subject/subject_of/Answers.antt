-- A piece other than the module is the partition, or after the partitions the channel, of its place.
use Rattle.std.proofs.Common.{◌<◌, ◌≤◌, ◌-◌, length, refl, arith}
use Rattle.apex_machine.specs.Channels.{channel_numbers}
use Rattle.piece_check.proofs.Numbering.{channel_fits, length-pieces, piece_at_channel, piece_at_partition}
use Rattle.piece_check.proofs.subject.subject_of.Goals as goal

pub returns-then-index-partitions-clause-value : goal.returns-then-index-partitions-clause-value
returns-then-index-partitions-clause-value c =
    let config = c.args.config.now in
    let some : 0 < c.args.piece = omega arith in
    let below : c.args.piece - 1 < length config.partitions = omega (arith, c.partition_count-partitions.ensures.value) in
    rw (piece_at_partition config c.args.piece some below, ← c.partition_number.ensures.value) refl

pub returns-else-index-partitions-clause-value : goal.returns-else-index-partitions-clause-value
returns-else-index-partitions-clause-value c =
    let config = c.args.config.now in
    let many = c.partition_count-partitions.ensures.value in
    let some : 0 < c.args.piece = omega arith in
    let past : length config.partitions ≤ c.args.piece - 1 = omega (arith, many, c.if-index-partitions.false) in
    let below : c.args.piece - 1 - length config.partitions < length (channel_numbers config) = omega (arith, c.requires, length-pieces config, some, past) in
    rw (piece_at_channel config c.args.piece some past below, c.channel_number.ensures.value, many) refl

pub returns-else-index-partitions-clause-listed : goal.returns-else-index-partitions-clause-listed
returns-else-index-partitions-clause-listed c = channel_fits c.args.config.now c.channel_number.result c.keeps_limits.ensures.limits c.channel_number.ensures.configured
