-- The write of one state is the change of its core.
use Rattle.std.proofs.Common.{List, ap}
use Rattle.apex_machine.specs.declared.state.CoreState.{CoreState}
use Rattle.scheduling.specs.Clocks.{Clocks}
use Rattle.scheduling.proofs.Cores.{at_core_first}
use Rattle.scheduling.proofs.clock.Clock.dispatch.Goals as goal

pub returns : goal.returns
returns c =
    let there = rw (← c.self.view_is) at c.requires in
    rw (← c.self.view_is, c.number-index.ensures)
    (ap (λ (cores : List CoreState). let clocks : Clocks = record { cores = cores; skew = c.self.inside.skew } in clocks)
    (at_core_first (λ state. record state { occupant = c.args.who }) c.self.inside.count c.args.core c.self.inside.cores c.index-self-index.result there))
