use Rattle.std.proofs.Common.{◌≡◌, None, sym, ap, ◌∙◌, option_map}
use Rattle.module_config.specs.Laid.{laid_out}
use Rattle.module_config.specs.Misfits.{fault_of}
use Rattle.module_config.specs.Whole.{whole_fault}
use Rattle.module_config.proofs.Judged.{IsConsistent-from_none, windows_are_configured}
use Rattle.module_config.proofs.config.Config.from_layout.Goals as goal

pub invariant_of-result : goal.invariant_of-result
invariant_of-result c =
    let none : whole_fault (laid_out c.args.layout) ≡ None = sym c.find_misfit.ensures.fault ∙ ap (option_map fault_of) c.in_default.is in
    let consistent = IsConsistent-from_none (laid_out c.args.layout) c.requires.ordered c.requires.by_start c.requires.some_tick none in
    (c.requires.limits, consistent, c.channel_numbers-numbers.ensures)

pub returns-clause-windows : goal.returns-clause-windows
returns-clause-windows c = windows_are_configured (laid_out c.args.layout) (invariant_of-result c).1
