use Rattle.module_config.specs.Laid.{laid_out}
use Rattle.module_config.proofs.Found.{window_at-configured}
use Rattle.module_config.proofs.config.Config.window_near.Goals as goal

pub returns-clause-configured : goal.returns-clause-configured
returns-clause-configured c =
    rw (← c.self.view_is) (window_at-configured (laid_out c.self.inside.layout) _ _ _ _ c.self.invariant.1.of_partitions c.deref.ensures.value c.window_among.ensures)
