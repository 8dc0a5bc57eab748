use Rattle.std.proofs.Common.{◌∙◌}
use Rattle.module_config.specs.Laid.{laid_out}
use Rattle.module_config.proofs.Numbers.{number-at}
use Rattle.module_config.proofs.config.Config.channel_number.Goals as goal

pub returns-clause-configured : goal.returns-clause-configured
returns-clause-configured c =
    rw (← c.self.view_is, c.new.ensures)
    (number-at (laid_out c.self.inside.layout) c.deref.result.now c.args.index 0 (c.deref.ensures.0 ∙ c.self.invariant.2)
    (rw (← c.self.view_is, ← c.self.invariant.2, ← c.deref.ensures.0) at c.requires))
