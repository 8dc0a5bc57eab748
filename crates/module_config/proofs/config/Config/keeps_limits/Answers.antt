use Rattle.module_config.specs.Laid.{laid_out}
use Rattle.module_config.proofs.Found.{cores_are_of_module}
use Rattle.module_config.proofs.Joined.{ends_are_apart}
use Rattle.module_config.proofs.Judged.{windows_are_configured}
use Rattle.module_config.proofs.config.Config.keeps_limits.Goals as goal

pub returns-clause-windows : goal.returns-clause-windows
returns-clause-windows c = rw (← c.self.view_is) (windows_are_configured (laid_out c.self.inside.layout) c.self.invariant.1)

pub returns-clause-cores : goal.returns-clause-cores
returns-clause-cores c = rw (← c.self.view_is) (cores_are_of_module (laid_out c.self.inside.layout) c.self.invariant.0)

pub returns-clause-ends : goal.returns-clause-ends
returns-clause-ends c = rw (← c.self.view_is) (ends_are_apart (laid_out c.self.inside.layout) c.self.invariant.1.once c.self.invariant.1.joined)
