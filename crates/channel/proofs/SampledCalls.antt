-- A call through a sampling channel, whichever configuration the channel has.
use Rattle.std.proofs.Common.{◌≡◌, ℕ, ℤ, [], ◌∷◌, ◌++◌, Option, Some, OnOk, Result, refl, sym}
use Rattle.std.proofs.lemmas.Result.{on_ok_weaker}
use Rattle.apex_types.specs.declared.operation.{SamplingOperation.SamplingOperation}
use Rattle.apex_types.specs.declared.record.Body.TheVariants.{Call}
use Rattle.apex_types.specs.declared.record.Call.{Call as CallRecord}
use Rattle.apex_types.specs.declared.request.Request.TheVariants as request
use Rattle.apex_types.specs.declared.shape.End.TheVariants.{Senders, Receivers}
use Rattle.apex_machine.specs.declared.state.WaitingSet.{WaitingSet}
use Rattle.apex_machine.specs.After.{content_by}
use Rattle.apex_machine.specs.Configuration.{Configuration}
use Rattle.apex_machine.specs.Demands.{answer_demands, through_demands}
use Rattle.apex_machine.specs.State.{Sampled, Stamped, channel_set}
use Rattle.apex_machine.specs.Waiting.{is_waiting, set_after}
use Rattle.channel.specs.declared.sampling.SamplingChannel.{SamplingChannel}
use Rattle.channel.specs.declared.settings.SamplingSettings.{SamplingSettings}
use Rattle.channel.specs.Held.{Held, IsAfterCall, IsConfigured}
use Rattle.channel.specs.Kinds.{sampling_held}
use Rattle.channel.specs.Operations.{sampling_effect}
use Rattle.channel.proofs.Shared.{and_false, apart, of_three, same_number, suited}
use Rattle.wait_set.specs.declared.object.ObjFault.{ObjFault}
use Rattle.wait_set.proofs.Calls.{set_left}

-- what is demanded of an operation is what the operation gives
pub sampling_demanded : (now number : ℕ) (settings : SamplingSettings) (last : Option Stamped) (call : CallRecord) (held : Held) (port : ℤ) (operation : SamplingOperation)
    → sampling_held number settings last ≡ held → call.request ≡ request.SamplingPort port operation
    → (configuration : Configuration) → IsConfigured configuration held
    → through_demands configuration now held.number held.channel call
    ≡ (apart call held ∷ suited ∷ []) ++ answer_demands (sampling_effect operation now settings.refresh last).answer call.claim
sampling_demanded now number settings last call held port (SamplingOperation.Write length message) seen asked = rw (← seen) (λ configuration is. rw asked refl)
sampling_demanded now number settings last call held port SamplingOperation.Read seen asked = rw (← seen) (λ configuration is. rw (asked, is.0) refl)

-- what the channel holds after an operation is what the operation leaves
content_after : (configuration : Configuration) (now number : ℕ) (settings : SamplingSettings) (last : Option Stamped) (call : CallRecord) (port : ℤ) (operation : SamplingOperation)
    → call.request ≡ request.SamplingPort port operation → call.claim.chan ≡ Some number
    → Sampled (sampling_effect operation now settings.refresh last).next ≡ content_by configuration now number (Call call) (sampling_held number settings last).channel
content_after configuration now number settings last call port (SamplingOperation.Write length message) asked through = rw (asked, through, same_number number) refl
content_after configuration now number settings last call port SamplingOperation.Read asked through = rw (asked, through, same_number number) refl

-- no process enters its empty sets
stay_empty : (place : ℕ) (call : CallRecord) (port : ℤ) (operation : SamplingOperation) (wanted : WaitingSet)
    → call.request ≡ request.SamplingPort port operation → set_after place (Call call) wanted [] ≡ []
stay_empty place call port operation wanted asked =
    set_left place call wanted [] (rw asked refl) (rw asked refl) (rw asked (and_false (is_waiting call.claim.out)))

-- the channel after an operation
pub sampling_after : (result : Result (Unit {0}) ObjFault) (now number place : ℕ) (channel next : SamplingChannel) (call : CallRecord) (held : Held) (port : ℤ)
    (operation : SamplingOperation) → sampling_held number channel.settings channel.last ≡ held → call.request ≡ request.SamplingPort port operation
    → call.claim.chan ≡ Some held.number → OnOk result (next ≡ record channel { last = (sampling_effect operation now channel.settings.refresh channel.last).next })
    → OnOk result (IsAfterCall place now call held (sampling_held number next.settings next.last))
sampling_after result now number place channel next call held port operation seen asked = rw (← seen)
    (λ through. on_ok_weaker result (λ next_is. rw next_is
    (λ configuration is. of_three (sampling_held number channel.settings channel.last) _ _ _ _ _ _
    (content_after configuration now number channel.settings channel.last call port operation asked through)
    (sym (stay_empty place call port operation (channel_set number Senders) asked))
    (sym (stay_empty place call port operation (channel_set number Receivers) asked)))))
