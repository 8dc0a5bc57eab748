use Rattle.std.proofs.Common.{◌≡◌, inl, inr, Some, None, not, refl, sym, ◌∙◌, ap, option_map}
use Rattle.std.specs.List.{find}
use Rattle.apex_machine.specs.Configuration.{QueuingChannel, SamplingChannel}
use Rattle.module_config.specs.Ends.{is_queuing_joined, is_sampling_joined}
use Rattle.module_config.specs.Laid.{laid_out}
use Rattle.module_config.specs.Misfits.{HasStrayChannel}
use Rattle.module_config.proofs.Shown.{both-pass, first-fails, none-stray, one-fails, second-fails, stray-found}
use Rattle.module_config.proofs.whole.find_stray_channel.Goals as goal

pub returns-in-Some : goal.returns-in-Some
returns-in-Some c =
    let configuration = laid_out c.args.layout.now in
    let joined = is_sampling_joined configuration.partitions in
    let found : find (λ channel. not (joined channel)) configuration.sampling ≡ Some c.in-Some.channel.now =
    rw (c.deref.ensures.value, c.deref-2.ensures.value) at (sym c.in-Some.ensures) in
    let shown : HasStrayChannel configuration c.in-Some.channel.now.number = inl (stray-found (λ (channel : SamplingChannel). channel.number) joined configuration.sampling c.in-Some.channel.now found) in
    (first-fails _ _ (one-fails joined configuration.sampling c.in-Some.channel.now found).0, refl, rw (← c.channel.view_is) at shown)

pub returns-in_err-channel : goal.returns-in_err-channel
returns-in_err-channel c =
    let configuration = laid_out c.args.layout.now in
    let first : find (λ channel. not (is_sampling_joined configuration.partitions channel)) configuration.sampling ≡ None =
    rw (c.deref.ensures.value, c.deref-2.ensures.value) at (sym c.find_unjoined.ensures ∙ ap (option_map (λ channel. channel.now)) c.in_default.is) in
    let second : find (λ channel. not (is_queuing_joined configuration.partitions channel)) configuration.queuing ≡ None =
    rw (c.deref-3.ensures.value, c.deref-4.ensures.value) at (sym c.find_unjoined-2.ensures ∙ ap (option_map (λ channel. channel.now)) c.in_err-channel.was) in
    rw c.from_residual.ensures
    (both-pass _ _ (none-stray (is_sampling_joined configuration.partitions) configuration.sampling first) (none-stray (is_queuing_joined configuration.partitions) configuration.queuing second))

pub returns : goal.returns
returns c =
    let configuration = laid_out c.args.layout.now in
    let joined = is_queuing_joined configuration.partitions in
    let found : find (λ channel. not (joined channel)) configuration.queuing ≡ Some c.in_ok-channel.channel.now =
    rw (c.deref-3.ensures.value, c.deref-4.ensures.value) at (sym c.in_ok-channel.ensures) in
    let shown : HasStrayChannel configuration c.in_ok-channel.channel.now.number = inr (stray-found (λ (channel : QueuingChannel). channel.number) joined configuration.queuing c.in_ok-channel.channel.now found) in
    (second-fails _ _ (one-fails joined configuration.queuing c.in_ok-channel.channel.now found).0, refl, rw (← c.channel-2.view_is) at shown)
