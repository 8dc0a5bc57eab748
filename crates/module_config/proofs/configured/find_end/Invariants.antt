use Rattle.std.proofs.Common.{◌≡◌, drop}
use Rattle.apex_machine.specs.Channels.{end_among}
use Rattle.module_config.proofs.configured.find_end.Given as goal

abbrev pub invariant-loop-channel : goal.invariant-loop-channel
invariant-loop-channel g l =
    let first = end_among g.Channel.ConfiguredChannel.source_of g.Channel.ConfiguredChannel.destinations_of l.part l.name in
    first (drop l.channel-index l.channels) ≡ first l.channels
