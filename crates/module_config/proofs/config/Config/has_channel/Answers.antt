use Rattle.std.proofs.Common.{◌∙◌}
use Rattle.module_config.specs.Laid.{laid_out}
use Rattle.module_config.proofs.Numbers.{number-found}
use Rattle.module_config.proofs.config.Config.has_channel.Goals as goal

pub returns : goal.returns
returns c =
    let found = number-found (laid_out c.self.inside.layout) c.deref.result.now c.number.result c.binary_search.result (c.deref.ensures.0 ∙ c.self.invariant.2) c.binary_search.ensures.position in
    rw (← c.self.view_is) (c.is_ok.ensures.value ∙ rw c.number.ensures at found)
