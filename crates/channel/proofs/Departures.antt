-- Messages that depart to the outside, whichever configuration the channel has.
use Rattle.std.proofs.Common.{◌≡◌, ℕ, pos, Err, Result, refl, sym, subst, ◌∙◌, inl, true≢false}
use Rattle.apex_types.specs.declared.cause.Cause.{Cause}
use Rattle.apex_types.specs.declared.cause.Cause.TheVariants as cause
use Rattle.apex_types.specs.declared.record.Crossing.{Crossing}
use Rattle.apex_machine.specs.Answer.{NamesExactly}
use Rattle.apex_machine.specs.Configuration.{Configuration}
use Rattle.apex_machine.specs.Demands.{Judges, departure_demands}
use Rattle.apex_machine.specs.Ports.{departed}
use Rattle.apex_machine.specs.State.{is_named}
use Rattle.channel.specs.declared.queuing.QueuingChannel.{QueuingChannel}
use Rattle.channel.specs.declared.sampling.SamplingChannel.{SamplingChannel}
use Rattle.channel.specs.Held.{AcceptsDeparture, ForQueuing, Held, IsAfterDeparture, JudgesDeparture, SaysTheSame}
use Rattle.channel.specs.Kinds.{queuing_held, queuing_settings, sampling_held}
use Rattle.channel.specs.Operations.{leaving_demands, queue_after_departure}
use Rattle.channel.proofs.Configured.{configured}
use Rattle.channel.proofs.Shared.{of_three, without-twice}
use Rattle.wait_set.specs.Queues.{received_from}

-- whether it is accepted

-- no departure from a sampling channel is accepted
pub never_sampled : (number : ℕ) (channel : SamplingChannel) (crossing : Crossing) (held : Held)
    → sampling_held number channel.settings channel.last ≡ held → JudgesDeparture crossing held (Err cause.Chan)
never_sampled number channel crossing held seen = rw (← seen)
    (λ configuration now says. inl ((λ outside. true≢false (sym outside ∙ says.3)), refl))

-- what is demanded of a departure is what the queue demands, in any configuration
demanded_in : (configuration : Configuration) (now number : ℕ) (channel : QueuingChannel) (crossing : Crossing)
    → SaysTheSame configuration number (ForQueuing (queuing_settings channel.size channel.source channel.destination channel.queue))
    → departure_demands configuration now number (queuing_held number channel.size channel.source channel.destination channel.queue).channel crossing
    ≡ leaving_demands channel.destination channel.queue crossing
demanded_in configuration now number channel crossing says = rw (says.1, says.7) refl

-- a departure from a queuing channel is judged as its queue judges it
pub judged : (number : ℕ) (channel : QueuingChannel) (crossing : Crossing) (held : Held) (result : Result (Unit {0}) Cause)
    → queuing_held number channel.size channel.source channel.destination channel.queue ≡ held
    → Judges (leaving_demands channel.destination channel.queue crossing) result → JudgesDeparture crossing held result
judged number channel crossing held result seen = rw (← seen)
    (λ judges configuration now says.
    subst (λ demands. Judges demands result) (sym (demanded_in configuration now number channel crossing says)) judges)

-- what it leaves

-- an accepted departure from a queuing channel names those whose waits end, in any configuration
named_in : (configuration : Configuration) (number : ℕ) (channel : QueuingChannel) (crossing : Crossing)
    → SaysTheSame configuration number (ForQueuing (queuing_settings channel.size channel.source channel.destination channel.queue))
    → NamesExactly (departed configuration 0 number (queuing_held number channel.size channel.source channel.destination channel.queue).channel).answer.woken crossing.woken
    → NamesExactly (received_from (pos 0) channel.queue).answer.woken crossing.woken
named_in configuration number channel crossing is names = rw is.1 at names

-- an accepted departure from a queuing channel names those whose waits end
pub named : (number : ℕ) (channel : QueuingChannel) (crossing : Crossing) (held : Held)
    → queuing_held number channel.size channel.source channel.destination channel.queue ≡ held → AcceptsDeparture crossing held
    → NamesExactly (received_from (pos 0) channel.queue).answer.woken crossing.woken
named number channel crossing held seen = rw (← seen)
    (λ accepts.
    let found = configured number (ForQueuing (queuing_settings channel.size channel.source channel.destination channel.queue)) in
    named_in found.0 number channel crossing found.1 (accepts found.0 0 found.1).1.1.0)

-- a sampling channel stays
pub sampling_after : (number : ℕ) (channel : SamplingChannel) (crossing : Crossing)
    → IsAfterDeparture crossing (sampling_held number channel.settings channel.last) (sampling_held number channel.settings channel.last)
sampling_after number channel crossing configuration now says = refl

-- a queuing channel after a departure
pub queuing_after : (number : ℕ) (channel next : QueuingChannel) (crossing : Crossing) (held : Held)
    → queuing_held number channel.size channel.source channel.destination channel.queue ≡ held
    → next ≡ record channel { queue = queue_after_departure crossing.woken channel.queue }
    → IsAfterDeparture crossing held (queuing_held number next.size next.source next.destination next.queue)
queuing_after number channel next crossing held seen is = rw (← seen, is)
    (λ configuration now says.
    of_three (queuing_held number channel.size channel.source channel.destination channel.queue) _ _ _ _ _ _ (rw says.1 refl)
    (without-twice (λ who. is_named who crossing.woken) channel.queue.senders.entries) refl)
