use Rattle.std.proofs.Common.{◌++◌, arith}
use Rattle.apex_machine.specs.Channels.{ends_inside}
use Rattle.module_config.proofs.Counted.{ends-counted}
use Rattle.module_config.proofs.configured.count_alike.Goals as goal

pub loop-channel-preserved : goal.loop-channel-preserved
loop-channel-preserved g c =
    let step = ends-counted (λ channel. ends_inside (g.Channel.ConfiguredChannel.source_of channel) ++ g.Channel.ConfiguredChannel.destinations_of channel)
    c.args.likeness c.args.end.now c.args.channels.now c.loop-channel.channel-index c.channel-item.result (omega arith) c.channel-item.is in
    record { counted = omega (arith, step, c.count_of-count.ensures.value, c.loop-channel.invariant.counted); few = omega (arith, c.count_of-count.ensures.most, c.loop-channel.invariant.few) }
