-- Messages that arrive from outside, whichever configuration the channel has.
use Rattle.std.proofs.Common.{◌≡◌, ℕ, pos, Ok, Err, IfErr, IsErr, IsOk, Result, refl, sym, true≢false}
use Rattle.apex_types.specs.declared.cause.Cause.{Cause}
use Rattle.apex_types.specs.declared.record.Crossing.{Crossing}
use Rattle.apex_machine.specs.Answer.{NamesExactly}
use Rattle.apex_machine.specs.Configuration.{Configuration}
use Rattle.apex_machine.specs.Ports.{arrived, written}
use Rattle.apex_machine.specs.State.{is_named}
use Rattle.channel.specs.declared.queuing.QueuingChannel.{QueuingChannel}
use Rattle.channel.specs.declared.sampling.SamplingChannel.{SamplingChannel}
use Rattle.channel.specs.Held.{AcceptsArrival, ForQueuing, Held, IsAfterArrival, JudgesArrival, RefusesArrival, SaysTheSame}
use Rattle.channel.specs.Kinds.{queuing_held, queuing_settings, sampling_held}
use Rattle.channel.specs.Operations.{queue_after_arrival}
use Rattle.channel.proofs.Configured.{configured}
use Rattle.channel.proofs.Shared.{of_three, without-twice}
use Rattle.wait_set.specs.Queues.{sent_to}
use Rattle.wait_set.specs.declared.object.ObjFault.{ObjFault}
use Rattle.wait_set.specs.declared.object.ObjFault.TheVariants.{Memory, Unlawful}

-- an arrival that is judged without a fault is accepted
pub accepted : (result : Result (Unit {0}) Cause) (crossing : Crossing) (held : Held) → IsOk result → JudgesArrival crossing held result
    → AcceptsArrival crossing held
accepted (Ok done) crossing held is judges = judges
accepted (Err cause) crossing held is judges = absurd (true≢false (sym is))

-- an arrival is refused as it is judged
pub refused : (result : Result (Unit {0}) Cause) (fault : ObjFault) (crossing : Crossing) (held : Held) → IsErr result
    → IfErr result (λ cause. fault ≡ Unlawful cause) → JudgesArrival crossing held result → RefusesArrival crossing held fault
refused (Ok done) fault crossing held is same judges = absurd (true≢false (sym is))
refused (Err cause) fault crossing held is same judges = rw same judges

-- an accepted arrival for which memory is lacking
pub lacks_memory : (fault : ObjFault) (crossing : Crossing) (held : Held) → fault ≡ Memory → AcceptsArrival crossing held
    → RefusesArrival crossing held fault
lacks_memory fault crossing held is accepts = rw is accepts

-- an accepted arrival at a queuing channel names those whose waits end, in any configuration
named_in : (configuration : Configuration) (number : ℕ) (channel : QueuingChannel) (crossing : Crossing)
    → SaysTheSame configuration number (ForQueuing (queuing_settings channel.size channel.source channel.destination channel.queue))
    → NamesExactly (arrived configuration 0 number crossing.message (queuing_held number channel.size channel.source channel.destination channel.queue).channel).answer.woken crossing.woken
    → NamesExactly (sent_to crossing.message (pos 0) channel.queue).answer.woken crossing.woken
named_in configuration number channel crossing is names = rw (is.0, is.2) at names

-- an accepted arrival at a queuing channel names those whose waits end
pub named : (number : ℕ) (channel : QueuingChannel) (crossing : Crossing) (held : Held)
    → queuing_held number channel.size channel.source channel.destination channel.queue ≡ held → AcceptsArrival crossing held
    → NamesExactly (sent_to crossing.message (pos 0) channel.queue).answer.woken crossing.woken
named number channel crossing held seen = rw (← seen)
    (λ accepts.
    let found = configured number (ForQueuing (queuing_settings channel.size channel.source channel.destination channel.queue)) in
    named_in found.0 number channel crossing found.1 (accepts found.0 0 found.1).1.1.0)

-- a sampling channel after an arrival
pub sampling_after : (now number : ℕ) (channel next : SamplingChannel) (crossing : Crossing) (held : Held)
    → sampling_held number channel.settings channel.last ≡ held → next ≡ record channel { last = (written now crossing.message).next }
    → IsAfterArrival now crossing held (sampling_held number next.settings next.last)
sampling_after now number channel next crossing held seen is = rw (← seen, is) (λ configuration says. refl)

-- a queuing channel after an arrival
pub queuing_after : (now number : ℕ) (channel next : QueuingChannel) (crossing : Crossing) (held : Held)
    → queuing_held number channel.size channel.source channel.destination channel.queue ≡ held
    → next ≡ record channel { queue = queue_after_arrival crossing.message crossing.woken channel.queue }
    → IsAfterArrival now crossing held (queuing_held number next.size next.source next.destination next.queue)
queuing_after now number channel next crossing held seen is = rw (← seen, is)
    (λ configuration says.
    of_three (queuing_held number channel.size channel.source channel.destination channel.queue) _ _ _ _ _ _ (rw (says.0, says.2) refl) refl
    (without-twice (λ who. is_named who crossing.woken) channel.queue.receivers.entries))
