use Rattle.std.proofs.Common.{arith}
use Rattle.module_config.proofs.Numbers.{rises-more}
use Rattle.module_config.proofs.counts.put_numbers.Goals as goal

pub loop-channel-preserved : goal.loop-channel-preserved
loop-channel-preserved g c =
    rw (c.insert.ensures.items, c.number-in-loop-channel.ensures, c.place_among-place.ensures.value, c.as_slice.ensures.value, c.number.ensures)
    (rises-more g.Channel.Numbered.number_of c.args.channels.now c.args.numbers.now.items c.loop-channel.channel-index c.loop-channel.numbers.items c.channel-item.result
    c.loop-channel.invariant (omega arith) c.channel-item.is)
