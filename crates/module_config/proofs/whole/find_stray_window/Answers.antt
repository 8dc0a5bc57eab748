use Rattle.std.proofs.Common.{◌≡◌, Some, None, not, refl, sym, ◌∙◌, ap, option_map}
use Rattle.std.specs.List.{find}
use Rattle.module_config.specs.Laid.{laid_out}
use Rattle.module_config.specs.Whole.{is_of_partition}
use Rattle.module_config.proofs.Shown.{found-in, none-stray, one-fails}
use Rattle.module_config.proofs.whole.find_stray_window.Goals as goal

pub returns-in_err-window : goal.returns-in_err-window
returns-in_err-window c =
    let configuration = laid_out c.args.layout.now in
    let joined = is_of_partition configuration.partitions in
    let none : find (λ window. not (joined window)) configuration.windows ≡ None =
    rw (c.deref.ensures.value, c.deref-2.ensures.value) at (sym c.stray_window.ensures ∙ ap (option_map (λ window. window.now)) c.in_err-window.was) in
    rw c.from_residual.ensures (ap not (none-stray joined configuration.windows none))

pub returns : goal.returns
returns c =
    let configuration = laid_out c.args.layout.now in
    let joined = is_of_partition configuration.partitions in
    let found : find (λ window. not (joined window)) configuration.windows ≡ Some c.in_ok-window.window.now =
    rw (c.deref.ensures.value, c.deref-2.ensures.value) at (sym c.in_ok-window.ensures) in
    let (some, stray) = one-fails joined configuration.windows c.in_ok-window.window.now found in (
      ap not some,
      refl,
      record {
        window = c.in_ok-window.window.now;
        configured = found-in (λ window. not (joined window)) configuration.windows c.in_ok-window.window.now found;
        of_core = sym c.core.ensures;
        begins = sym c.start.ensures;
        of_partition = sym c.partition.ensures;
        stray = stray;
      },
    )
