use Rattle.std.proofs.Common.{◌≡◌, Some, None, refl, sym, ◌∙◌, ap, option_map}
use Rattle.std.specs.Prelude.{◌||◌}
use Rattle.std.specs.List.{find}
use Rattle.std.proofs.lemmas.List.{append-nil}
use Rattle.apex_types.specs.declared.limits.TheConstants.{MOST_PORTS}
use Rattle.module_config.specs.declared.ends.Likeness.TheVariants as likeness
use Rattle.module_config.specs.Ends.{are_too_many, is_exceeded, queuing_ends, sampling_ends}
use Rattle.module_config.proofs.Shown.{either-fails, either-passes, none-found, ports-found}
use Rattle.module_config.proofs.whole.find_port_excess.Goals as goal

pub returns-in-Some : goal.returns-in-Some
returns-in-Some c =
    let places = sampling_ends c.args.layout.now.sampling.items in
    let found : find (is_exceeded likeness.Partition MOST_PORTS places) places ≡ Some c.in-Some.end.now =
    rw (c.deref.ensures.value, append-nil places) at (sym c.in-Some.ensures) in
    let (many, more) = ports-found MOST_PORTS places c.in-Some.end.now found in
    (ap (λ b. b || are_too_many likeness.Partition MOST_PORTS (queuing_ends c.args.layout.now.queuing.items)) many, refl, rw c.partition.ensures more)

pub returns-in_err-end : goal.returns-in_err-end
returns-in_err-end c =
    let sampling = sampling_ends c.args.layout.now.sampling.items in
    let queuing = queuing_ends c.args.layout.now.queuing.items in
    let first : find (is_exceeded likeness.Partition MOST_PORTS sampling) sampling ≡ None =
    rw (c.deref.ensures.value, append-nil sampling) at (sym c.find_exceeded.ensures ∙ ap (option_map (λ end. end.now)) c.in_default.is) in
    let second : find (is_exceeded likeness.Partition MOST_PORTS queuing) queuing ≡ None =
    rw c.deref-2.ensures.value at (sym c.find_exceeded-2.ensures ∙ ap (option_map (λ end. end.now)) c.in_err-end.was) in
    rw c.from_residual.ensures
    (either-fails _ _ (none-found (is_exceeded likeness.Partition MOST_PORTS sampling) sampling first) (none-found (is_exceeded likeness.Partition MOST_PORTS queuing) queuing second))

pub returns : goal.returns
returns c =
    let places = queuing_ends c.args.layout.now.queuing.items in
    let found : find (is_exceeded likeness.Partition MOST_PORTS places) places ≡ Some c.in_ok-end.end.now = rw c.deref-2.ensures.value at (sym c.in_ok-end.ensures) in
    let (many, more) = ports-found MOST_PORTS places c.in_ok-end.end.now found in
    (either-passes (are_too_many likeness.Partition MOST_PORTS (sampling_ends c.args.layout.now.sampling.items)) _ many, refl, rw c.partition-2.ensures more)
