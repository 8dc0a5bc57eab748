use Rattle.module_config.proofs.Numbers.{KeepsRising}
use Rattle.module_config.proofs.counts.put_numbers.Given as goal

abbrev pub invariant-loop-channel : goal.invariant-loop-channel
invariant-loop-channel g l = KeepsRising g.Channel.Numbered.number_of l.channels l.fn.numbers.items l.channel-index l.numbers.items
