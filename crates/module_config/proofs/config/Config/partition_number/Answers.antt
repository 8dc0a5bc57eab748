use Rattle.std.proofs.Common.{◌<◌, ap, length}
use Rattle.std.proofs.lemmas.List.{get_or-map}
use Rattle.module_config.proofs.Numbers.{numbered-at}
use Rattle.module_config.proofs.config.Config.partition_number.Goals as goal

pub returns-clause-configured : goal.returns-clause-configured
returns-clause-configured c =
    let partitions = c.self.inside.layout.partitions.items in
    let below : c.args.index < length partitions = rw (← c.self.view_is) at c.requires in
    let at = numbered-at (λ limits. limits.number) partitions c.args.index 0 below in
    rw (← c.self.view_is, ap (λ limits. limits.number) c.behind-self.view_is)
    (rw (get_or-map (λ limits. limits.number) partitions c.args.index c.index.result.now 0 below, ← c.index.ensures) at at)
