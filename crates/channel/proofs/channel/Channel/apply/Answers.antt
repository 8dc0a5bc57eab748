use Rattle.std.proofs.Common.{◌≡◌, ℤ, [], ◌∷◌, refl, rules}
use Rattle.apex_types.specs.declared.object_kind.ObjectKind.TheVariants as kind
use Rattle.apex_types.specs.declared.request.Request.TheVariants as request
use Rattle.channel.proofs.QueuedCalls.{asked_after, asked_demanded, new_caller, queuing_after, queuing_demanded}
use Rattle.channel.proofs.SampledCalls.{sampling_after, sampling_demanded}
use Rattle.channel.proofs.Shared.{accepted, apart, refused, suited}
use Rattle.channel.proofs.channel.Channel.apply.Goals as goal
use Rattle.channel.proofs.channel.Channel.apply.Goals.{in-Sampling-SamplingPort, in-Queuing-QueuingPort, in-Queuing-GetStatus-QueuingPort-default, in_default, in_default-2, in_default-3}

pub apply-requires-in-Queuing-QueuingPort : goal.apply-requires-in-Queuing-QueuingPort
apply-requires-in-Queuing-QueuingPort c =
    let free : (apart c.args.call.now c.args.self.now).holds = search rules in
    record {
      new = new_caller _ _ _ _ c.args.place c.in-Queuing-QueuingPort.channel.queue c.args.call.now c.args.self.now (rw c.in-Queuing-QueuingPort.is-0 at c.self.view_is)
          free c.requires.below;
    }

pub returns-clause-ok : goal.returns-clause-ok
returns-clause-ok c =
    let now = c.args.now in
    let call = c.args.call.now in
    let held = c.args.self.now in
    let free : (apart call held).holds = search rules in
    elim c.match-self.branch [
      | in-Sampling-SamplingPort w ↦
          let arm = w.in-Sampling-SamplingPort in
          rw w.result-is (accepted w.apply.result now call held (apart call held ∷ suited ∷ []) _
          (sampling_demanded now _ _ _ call held _ arm.operation (rw arm.is-0 at c.self.view_is) arm.is-1) (free, (refl, tt)) w.apply.ensures.ok)
      | in-Queuing-QueuingPort w ↦
          let arm = w.in-Queuing-QueuingPort in
          rw w.result-is (accepted w.apply-in-Queuing-QueuingPort.result now call held (apart call held ∷ suited ∷ []) _
          (queuing_demanded now _ _ _ _ arm.channel.queue call held _ arm.operation (rw arm.is-0 at c.self.view_is) arm.is-1) (free, (refl, tt))
          w.apply-in-Queuing-QueuingPort.ensures.ok)
      | in-Queuing-GetStatus-QueuingPort-default w ↦
          let arm = w.in-Queuing-GetStatus-QueuingPort-default in
          let asked : (port : ℤ) × (call.request ≡ request.GetStatus kind.QueuingPort port) = search rules in
          rw w.result-is (accepted w.ask.result now call held (apart call held ∷ []) _
          (asked_demanded now _ _ _ _ arm.channel.queue call held _ (rw arm.is-0 at c.self.view_is) asked.1) (free, tt) w.ask.ensures.ok)
      | in_default w ↦ rw w.result-is tt
      | in_default-2 w ↦ rw w.result-is tt
      | in_default-3 w ↦ rw w.result-is tt
    ]

pub returns-clause-after : goal.returns-clause-after
returns-clause-after c =
    let now = c.args.now in
    let call = c.args.call.now in
    let held = c.args.self.now in
    elim c.match-self.branch [
      | in-Sampling-SamplingPort w ↦
          let arm = w.in-Sampling-SamplingPort in
          rw (w.result-is, w.self-inside-is) (sampling_after w.apply.result now _ c.args.place arm.channel w.apply.new.self call held _ arm.operation
          (rw arm.is-0 at c.self.view_is) arm.is-1 c.requires.through w.apply.ensures.after)
      | in-Queuing-QueuingPort w ↦
          let arm = w.in-Queuing-QueuingPort in
          rw (w.result-is, w.self-inside-is) (queuing_after w.apply-in-Queuing-QueuingPort.result now _ c.args.place arm.channel
          w.apply-in-Queuing-QueuingPort.new.self call held _ arm.operation
          (rw arm.is-0 at c.self.view_is) arm.is-1 c.requires.through c.requires.below w.apply-in-Queuing-QueuingPort.ensures.after)
      | in-Queuing-GetStatus-QueuingPort-default w ↦
          let arm = w.in-Queuing-GetStatus-QueuingPort-default in
          let asked : (port : ℤ) × (call.request ≡ request.GetStatus kind.QueuingPort port) = search rules in
          rw (w.result-is, w.self-inside-is, ← c.self.view_is, arm.is-0) (asked_after w.ask.result now c.self.inside.number c.args.place
          arm.channel.size arm.channel.source arm.channel.destination arm.channel.queue call _ _ refl asked.1 (rw (← c.self.view_is, arm.is-0) at c.requires.through) w.ask.ensures.ok)
      | in_default w ↦ rw w.result-is tt
      | in_default-2 w ↦ rw w.result-is tt
      | in_default-3 w ↦ rw w.result-is tt
    ]

pub returns-clause-refused : goal.returns-clause-refused
returns-clause-refused c =
    let now = c.args.now in
    let call = c.args.call.now in
    let held = c.args.self.now in
    let free : (apart call held).holds = search rules in
    elim c.match-self.branch [
      | in-Sampling-SamplingPort w ↦
          let arm = w.in-Sampling-SamplingPort in
          rw w.result-is (refused w.apply.result now call held (apart call held ∷ suited ∷ []) _
          (sampling_demanded now _ _ _ call held _ arm.operation (rw arm.is-0 at c.self.view_is) arm.is-1) (free, (refl, tt)) w.apply.ensures.refused)
      | in-Queuing-QueuingPort w ↦
          let arm = w.in-Queuing-QueuingPort in
          rw w.result-is (refused w.apply-in-Queuing-QueuingPort.result now call held (apart call held ∷ suited ∷ []) _
          (queuing_demanded now _ _ _ _ arm.channel.queue call held _ arm.operation (rw arm.is-0 at c.self.view_is) arm.is-1) (free, (refl, tt))
          w.apply-in-Queuing-QueuingPort.ensures.refused)
      | in-Queuing-GetStatus-QueuingPort-default w ↦
          let arm = w.in-Queuing-GetStatus-QueuingPort-default in
          let asked : (port : ℤ) × (call.request ≡ request.GetStatus kind.QueuingPort port) = search rules in
          rw w.result-is (refused w.ask.result now call held (apart call held ∷ []) _
          (asked_demanded now _ _ _ _ arm.channel.queue call held _ (rw arm.is-0 at c.self.view_is) asked.1) (free, tt) w.ask.ensures.refused)
      | in_default w ↦ rw (w.result-is, ← c.self.view_is, w.in_default.is-0) (search rules)
      | in_default-2 w ↦ rw (w.result-is, ← c.self.view_is, w.in_default.is-0) (search rules)
      | in_default-3 w ↦ rw (w.result-is, ← c.self.view_is, w.in_default.is-0) (search rules)
    ]
