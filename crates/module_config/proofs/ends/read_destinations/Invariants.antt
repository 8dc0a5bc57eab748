use Rattle.module_config.specs.ChannelWalk.{destination_in}
use Rattle.module_config.proofs.Fronts.{IsAny, KeepsReading}
use Rattle.module_config.proofs.ends.read_destinations.Given as goal

abbrev pub invariant-loop-index : goal.invariant-loop-index
invariant-loop-index l = KeepsReading IsAny (destination_in l.channel) l.items l.index l.ends.items
