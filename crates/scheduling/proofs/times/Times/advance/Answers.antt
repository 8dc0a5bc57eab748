-- The write of one time is one more tick of its core, and the time is one that fits.
use Rattle.std.proofs.Common.{arith}
use Rattle.scheduling.proofs.Timing.{one_more_first, time_at_first}
use Rattle.scheduling.proofs.times.Times.advance.Goals as goal

pub overflow_add-self : goal.overflow_add-self
overflow_add-self c =
    let there = rw (← c.self.view_is) at c.requires.core in
    let below = rw (← c.self.view_is, time_at_first c.self.inside.count c.args.core c.self.inside.times 0 there) at c.requires.time in
    rw c.number.ensures (omega (arith, below))

pub returns : goal.returns
returns c =
    let there = rw (← c.self.view_is) at c.requires.core in
    rw (← c.self.view_is, c.number.ensures) (one_more_first c.self.inside.count c.args.core c.self.inside.times 0 there)
