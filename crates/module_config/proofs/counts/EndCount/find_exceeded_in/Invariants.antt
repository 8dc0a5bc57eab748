use Rattle.std.proofs.Common.{◌≡◌, ◌++◌, drop}
use Rattle.std.specs.List.{find, flat_map}
use Rattle.apex_machine.specs.Channels.{ends_inside}
use Rattle.module_config.specs.Ends.{ends_of, is_exceeded}
use Rattle.module_config.proofs.counts.EndCount.find_exceeded_in.Given as goal

abbrev pub invariant-loop-channel : goal.invariant-loop-channel
invariant-loop-channel g l =
    let first = find (is_exceeded l.self.likeness l.self.most (ends_of l.self.sampling.now l.self.queuing.now)) in
    let ends = flat_map (λ channel. ends_inside (g.Channel.ConfiguredChannel.source_of channel) ++ g.Channel.ConfiguredChannel.destinations_of channel) in
    first (ends (drop l.channel-index l.channels)) ≡ first (ends l.channels)
