-- The write of one state is the change of its core, and its time is one that fits.
use Rattle.std.proofs.Common.{◌+◌, List, ap, arith}
use Rattle.apex_machine.specs.declared.state.CoreState.{CoreState}
use Rattle.scheduling.specs.Clocks.{Clocks}
use Rattle.scheduling.proofs.Cores.{time_of_first, at_core_first}
use Rattle.scheduling.proofs.clock.Clock.advance.Goals as goal

pub overflow_add-time : goal.overflow_add-time
overflow_add-time c =
    let there = rw (← c.self.view_is) at c.requires.core in
    let below = rw (← c.self.view_is, time_of_first c.self.inside.count c.args.core c.self.inside.cores c.index-self-index.result there) at c.requires.time in
    rw c.number-index.ensures (omega (arith, below))

pub returns : goal.returns
returns c =
    let there = rw (← c.self.view_is) at c.requires.core in
    rw (← c.self.view_is, c.number-index.ensures)
    (ap (λ (cores : List CoreState). let clocks : Clocks = record { cores = cores; skew = c.self.inside.skew } in clocks)
    (at_core_first (λ state. record state { time = state.time + 1 }) c.self.inside.count c.args.core c.self.inside.cores c.index-self-index.result there))
