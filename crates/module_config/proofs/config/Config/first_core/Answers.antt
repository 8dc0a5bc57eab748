use Rattle.std.proofs.Common.{sym}
use Rattle.module_config.specs.Limits.{AreCoresOf}
use Rattle.module_config.proofs.Found.{first_of-below, numbered-holds}
use Rattle.module_config.proofs.config.Config.first_core.Goals as goal

pub returns-in-Some-clause-below : goal.returns-in-Some-clause-below
returns-in-Some-clause-below c =
    let found = rw c.deref.ensures.value at (sym c.in-Some.ensures) in
    let below = numbered-holds (AreCoresOf c.self.inside.layout.cores) (λ limits. limits.number) c.args.part c.self.inside.layout.partitions.items c.in-Some.partition.now c.self.invariant.0.own_cores found in
    let first = first_of-below c.self.inside.layout.cores c.in-Some.partition.now.cores c.self.invariant.0.cores.least below in
    rw (c.first.ensures, ← c.self.view_is) (rw (← c.partition.view_is) at first)
