use Rattle.std.proofs.Common.{◌≡◌, ◌+◌, ◌*◌, ◌≤◌, ◌++◌, drop}
use Rattle.std.specs.List.{flat_map}
use Rattle.apex_types.specs.declared.limits.TheConstants.{MOST_DESTINATIONS}
use Rattle.apex_machine.specs.Channels.{ends_inside}
use Rattle.module_config.specs.Ends.{count_alike}
use Rattle.module_config.proofs.configured.count_alike.Given as goal

abbrev pub invariant-loop-channel : goal.invariant-loop-channel
invariant-loop-channel g l =
    let ends = flat_map (λ channel. ends_inside (g.Channel.ConfiguredChannel.source_of channel) ++ g.Channel.ConfiguredChannel.destinations_of channel) in
    record {
      counted : l.count + count_alike l.likeness l.end (ends (drop l.channel-index l.channels)) ≡ count_alike l.likeness l.end (ends l.channels);
      few : l.count ≤ (MOST_DESTINATIONS + 1) * l.channel-index;
    }
