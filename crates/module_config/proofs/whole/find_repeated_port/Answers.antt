use Rattle.std.proofs.Common.{◌≡◌, Some, None, refl, sym, ◌∙◌, ap, option_map}
use Rattle.std.specs.List.{find}
use Rattle.module_config.specs.declared.ends.Likeness.TheVariants as likeness
use Rattle.module_config.specs.Ends.{ends_of, is_exceeded}
use Rattle.module_config.proofs.Shown.{none-found, port-found}
use Rattle.module_config.proofs.whole.find_repeated_port.Goals as goal

pub returns-in_err-end : goal.returns-in_err-end
returns-in_err-end c =
    let places = ends_of c.args.layout.now.sampling.items c.args.layout.now.queuing.items in
    let none : find (is_exceeded likeness.Port 1 places) places ≡ None =
    rw (c.deref.ensures.value, c.deref-2.ensures.value) at (sym c.find_exceeded.ensures ∙ ap (option_map (λ end. end.now)) c.in_err-end.was) in
    rw c.from_residual.ensures (none-found (is_exceeded likeness.Port 1 places) places none)

pub returns : goal.returns
returns c =
    let places = ends_of c.args.layout.now.sampling.items c.args.layout.now.queuing.items in
    let found : find (is_exceeded likeness.Port 1 places) places ≡ Some c.in_ok-end.end.now =
    rw (c.deref.ensures.value, c.deref-2.ensures.value) at (sym c.in_ok-end.ensures) in
    let (many, more) = port-found places c.in_ok-end.end.now found in
    (many, refl, rw (c.partition.ensures, c.name.ensures) more)
