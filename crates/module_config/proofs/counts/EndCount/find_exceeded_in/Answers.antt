use Rattle.std.proofs.Common.{◌++◌, sym, ◌∙◌, ap, option_map, arith}
use Rattle.apex_machine.specs.Channels.{ends_inside}
use Rattle.module_config.specs.Ends.{ends_of, is_exceeded}
use Rattle.module_config.proofs.Counted.{found-here, found-later}
use Rattle.module_config.proofs.counts.EndCount.find_exceeded_in.Goals as goal

pub returns-in-Some : goal.returns-in-Some
returns-in-Some g c =
    let self = c.args.self.now in
    let test = is_exceeded self.likeness self.most (ends_of self.sampling.now self.queuing.now) in
    sym (found-here test (λ channel. ends_inside (g.Channel.ConfiguredChannel.source_of channel) ++ g.Channel.ConfiguredChannel.destinations_of channel) c.args.channels.now c.loop-channel.channel-index c.channel-item.result c.in-Some.end.now (omega arith) c.channel-item.is (sym c.in-Some.ensures)) ∙ c.loop-channel.invariant

pub loop-channel-preserved : goal.loop-channel-preserved
loop-channel-preserved g c =
    let self = c.args.self.now in
    let test = is_exceeded self.likeness self.most (ends_of self.sampling.now self.queuing.now) in
    let none = sym c.find_exceeded_of.ensures ∙ ap (option_map (λ end. end.now)) c.in_default.is in
    sym (found-later test (λ channel. ends_inside (g.Channel.ConfiguredChannel.source_of channel) ++ g.Channel.ConfiguredChannel.destinations_of channel) c.args.channels.now c.loop-channel.channel-index c.channel-item.result (omega arith) c.channel-item.is none) ∙ c.loop-channel.invariant
