-- A call through a queuing channel, whichever configuration the channel has.
use Rattle.std.proofs.Common.{◌≡◌, ◌||◌, ℕ, ℤ, List, [], ◌∷◌, ◌++◌, Option, Some, None, option_map, Bool, true, false, ◌&&◌, if◌then◌else◌, IsTrue, OnOk, Result, refl, sym, ap, subst, ◌∙◌}
use Rattle.std.proofs.lemmas.Result.{on_ok_weaker}
use Rattle.apex_types.specs.declared.cause.Cause.TheVariants as cause
use Rattle.apex_types.specs.declared.object_kind.ObjectKind.TheVariants as kind
use Rattle.apex_types.specs.declared.operation.{QueuingOperation.QueuingOperation}
use Rattle.apex_types.specs.declared.record.Body.TheVariants.{Call}
use Rattle.apex_types.specs.declared.record.Call.{Call as CallRecord}
use Rattle.apex_types.specs.declared.record.Claim.{Claim}
use Rattle.apex_types.specs.declared.request.Request.TheVariants as request
use Rattle.apex_types.specs.declared.shape.End.TheVariants.{Senders, Receivers}
use Rattle.apex_machine.specs.declared.state.Entry.{Entry}
use Rattle.apex_machine.specs.declared.state.WaitingSet.{WaitingSet}
use Rattle.apex_machine.specs.Demands.{AllHold, answer_demands, has_entry_in, through_demands}
use Rattle.apex_machine.specs.Answer.{Answer}
use Rattle.apex_machine.specs.Configuration.{Configuration}
use Rattle.apex_machine.specs.Ports.{channel_status}
use Rattle.apex_machine.specs.Queue.{Messages}
use Rattle.apex_machine.specs.Statuses.{telling}
use Rattle.apex_machine.specs.Waiting.{is_waiting, set_after}
use Rattle.wait_set.specs.Queues.{Queue}
use Rattle.channel.specs.declared.queuing.QueuingChannel.{QueuingChannel}
use Rattle.channel.specs.Held.{AllBelow, Held, IsAfterCall, IsConfigured, is_there}
use Rattle.channel.specs.Kinds.{queuing_held}
use Rattle.channel.specs.Operations.{asked_demands, queue_after, queuing_effect, waiting_between}
use Rattle.channel.proofs.Shared.{and_false, apart, of_three, same_number, still_refused, suited, without-twice}
use Rattle.wait_set.specs.declared.object.Actor.{Actor}
use Rattle.wait_set.specs.declared.object.ObjFault.{ObjFault}
use Rattle.wait_set.specs.Actors.{Refuses, entry_with, joined_by}
use Rattle.wait_set.specs.Laws.{AreBeforePlace}
use Rattle.wait_set.specs.Sets.{IsNewInEach}
use Rattle.wait_set.proofs.Calls.{no_place, set_joined, set_left}
use Rattle.wait_set.proofs.Leaving.{without-unnamed}
use Rattle.wait_set.proofs.Tests.{neither_first, neither_later}
use Rattle.apex_machine.specs.State.{channel_set, is_named}

-- a test and one that holds
and_true : (b : Bool) → (b && true) ≡ b
and_true true = refl
and_true false = refl

-- the caller of a call at this place
abbrev pub caller_of : ℕ → CallRecord → Actor
caller_of place call = record { who = call.who; priority = call.claim.prio; place = place }

-- a caller that waits at neither end is new in both sets
pub new_caller : (number size : ℕ) (source destination : Option ℕ) (place : ℕ) (queue : Queue) (call : CallRecord) (held : Held)
    → queuing_held number size source destination queue ≡ held → (has_entry_in call.who held.channel.senders || has_entry_in call.who held.channel.receivers) ≡ false → AllBelow place held
    → IsNewInEach (entry_with (caller_of place call) []) (queue.senders.entries ∷ queue.receivers.entries ∷ [])
new_caller number size source destination place queue call held seen = rw (← seen)
    (λ apart below. ((neither_first _ _ apart, no_place place queue.senders.entries below.0), ((neither_later _ _ apart, no_place place queue.receivers.entries below.1), tt)))

-- operations

-- what is demanded of an operation is what the operation gives
pub queuing_demanded : (now number size : ℕ) (source destination : Option ℕ) (queue : Queue) (call : CallRecord) (held : Held) (port : ℤ) (operation : QueuingOperation)
    → queuing_held number size source destination queue ≡ held → call.request ≡ request.QueuingPort port operation
    → (configuration : Configuration) → IsConfigured configuration held
    → through_demands configuration now held.number held.channel call
    ≡ (apart call held ∷ suited ∷ []) ++ answer_demands (queuing_effect operation queue).answer call.claim
queuing_demanded now number size source destination queue call held port (QueuingOperation.Send length time_out message) seen asked = rw (← seen)
    (λ configuration is. rw (asked, is.0, is.2) refl)
queuing_demanded now number size source destination queue call held port (QueuingOperation.Receive time_out) seen asked = rw (← seen)
    (λ configuration is. rw (asked, is.1) refl)
queuing_demanded now number size source destination queue call held port QueuingOperation.Clear seen asked = rw (← seen)
    (λ configuration is. rw (asked, is.0, is.1) refl)

-- who waits to send after an operation
senders_after : (number place : ℕ) (queue : Queue) (call : CallRecord) (port : ℤ) (operation : QueuingOperation)
    → call.request ≡ request.QueuingPort port operation → call.claim.chan ≡ Some number → AreBeforePlace place queue.senders.entries
    → set_after place (Call call) (channel_set number Senders) queue.senders.entries
    ≡ (queue_after (caller_of place call) operation call.claim queue).senders.entries
senders_after number place queue call port (QueuingOperation.Send length time_out message) asked through before =
    set_joined place call (channel_set number Senders) queue.senders.entries (rw asked refl) (rw asked refl) before
    (rw (asked, through, same_number number) (and_true (is_waiting call.claim.out)))
    ∙ ap (λ bytes. joined_by (caller_of place call) call.claim bytes queue.senders.entries) (rw asked refl)
senders_after number place queue call port (QueuingOperation.Receive time_out) asked through before =
    set_left place call (channel_set number Senders) queue.senders.entries (rw asked refl) (rw asked refl)
    (rw (asked, through, same_number number) (and_false (is_waiting call.claim.out)))
senders_after number place queue call port QueuingOperation.Clear asked through before =
    set_left place call (channel_set number Senders) queue.senders.entries (rw asked refl) (rw asked refl)
    (rw (asked, through) (and_false (is_waiting call.claim.out)))
    ∙ sym (without-twice (λ who. is_named who call.claim.woken) queue.senders.entries)

-- who waits to receive after an operation
receivers_after : (number place : ℕ) (queue : Queue) (call : CallRecord) (port : ℤ) (operation : QueuingOperation)
    → call.request ≡ request.QueuingPort port operation → call.claim.chan ≡ Some number → AreBeforePlace place queue.receivers.entries
    → set_after place (Call call) (channel_set number Receivers) queue.receivers.entries
    ≡ (queue_after (caller_of place call) operation call.claim queue).receivers.entries
receivers_after number place queue call port (QueuingOperation.Send length time_out message) asked through before =
    set_left place call (channel_set number Receivers) queue.receivers.entries (rw asked refl) (rw asked refl)
    (rw (asked, through, same_number number) (and_false (is_waiting call.claim.out)))
receivers_after number place queue call port (QueuingOperation.Receive time_out) asked through before =
    set_joined place call (channel_set number Receivers) queue.receivers.entries (rw asked refl) (rw asked refl) before
    (rw (asked, through, same_number number) (and_true (is_waiting call.claim.out)))
    ∙ ap (λ bytes. joined_by (caller_of place call) call.claim bytes queue.receivers.entries) (rw asked refl)
receivers_after number place queue call port QueuingOperation.Clear asked through before =
    set_left place call (channel_set number Receivers) queue.receivers.entries (rw asked refl) (rw asked refl)
    (rw (asked, through) (and_false (is_waiting call.claim.out)))

-- what an operation leaves is the channel after the call
left_so : (now number place : ℕ) (channel : QueuingChannel) (call : CallRecord) (port : ℤ) (operation : QueuingOperation)
    → call.request ≡ request.QueuingPort port operation → call.claim.chan ≡ Some number
    → AllBelow place (queuing_held number channel.size channel.source channel.destination channel.queue)
    → IsAfterCall place now call (queuing_held number channel.size channel.source channel.destination channel.queue)
    (queuing_held number channel.size channel.source channel.destination (queue_after (caller_of place call) operation call.claim channel.queue))
left_so now number place channel call port (QueuingOperation.Send length time_out message) asked through below = λ configuration is.
    of_three (queuing_held number channel.size channel.source channel.destination channel.queue) _ _ _ _ _ _ (rw (asked, through, same_number number, is.0, is.2) refl)
    (sym (senders_after number place channel.queue call port _ asked through below.0))
    (sym (receivers_after number place channel.queue call port _ asked through below.1))
left_so now number place channel call port (QueuingOperation.Receive time_out) asked through below = λ configuration is.
    of_three (queuing_held number channel.size channel.source channel.destination channel.queue) _ _ _ _ _ _ (rw (asked, through, same_number number, is.1) refl)
    (sym (senders_after number place channel.queue call port _ asked through below.0))
    (sym (receivers_after number place channel.queue call port _ asked through below.1))
left_so now number place channel call port QueuingOperation.Clear asked through below = λ configuration is.
    of_three (queuing_held number channel.size channel.source channel.destination channel.queue) _ _ _ _ _ _ (rw (asked, through, same_number number, is.0, is.1) refl)
    (sym (senders_after number place channel.queue call port _ asked through below.0))
    (sym (receivers_after number place channel.queue call port _ asked through below.1))

-- the channel after an operation
pub queuing_after : (result : Result (Unit {0}) ObjFault) (now number place : ℕ) (channel next : QueuingChannel) (call : CallRecord) (held : Held) (port : ℤ)
    (operation : QueuingOperation) → queuing_held number channel.size channel.source channel.destination channel.queue ≡ held
    → call.request ≡ request.QueuingPort port operation → call.claim.chan ≡ Some held.number → AllBelow place held
    → OnOk result (next ≡ record channel { queue = queue_after (caller_of place call) operation call.claim channel.queue })
    → OnOk result (IsAfterCall place now call held (queuing_held number next.size next.source next.destination next.queue))
queuing_after result now number place channel next call held port operation seen asked = rw (← seen)
    (λ through below. on_ok_weaker result (λ next_is. rw next_is (left_so now number place channel call port operation asked through below)))

-- asking

-- what is demanded of one that asks is what the queue demands
pub asked_demanded : (now number size : ℕ) (source destination : Option ℕ) (queue : Queue) (call : CallRecord) (held : Held) (port : ℤ)
    → queuing_held number size source destination queue ≡ held → call.request ≡ request.GetStatus kind.QueuingPort port
    → (configuration : Configuration) → IsConfigured configuration held
    → through_demands configuration now held.number held.channel call ≡ (apart call held ∷ []) ++ asked_demands source destination call.who.part queue call.claim
asked_demanded now number size source destination queue call held port seen asked = rw (← seen)
    (λ configuration is. rw (asked, is.3 call.who.part, is.4 call.who.part) refl)

-- an asker at an end, which is given this, is refused as the claim of it is
refused_by : (at_source at_destination : Bool) (messages : Messages) (senders receivers : List Entry) (claim : Claim) (given : Answer) (fault : ObjFault)
    → Some given ≡ option_map (λ waiting. telling (Some (channel_status messages waiting)))
    (if at_source then Some senders else if at_destination then Some receivers else None)
    → Refuses (answer_demands given claim) fault
    → Refuses (record { cause = cause.Chan; holds = IsTrue (at_source || at_destination) }
    ∷ answer_demands (telling (Some (channel_status messages (if at_source then senders else receivers)))) claim) fault
refused_by true at_destination messages senders receivers claim given fault gives fails =
    let is : given ≡ telling (Some (channel_status messages senders)) = cc in
    still_refused (suited ∷ []) (answer_demands (telling (Some (channel_status messages senders))) claim) fault (refl, tt)
    (subst (λ answer. Refuses (answer_demands answer claim) fault) is fails)
refused_by false true messages senders receivers claim given fault gives fails =
    let is : given ≡ telling (Some (channel_status messages receivers)) = cc in
    still_refused (suited ∷ []) (answer_demands (telling (Some (channel_status messages receivers))) claim) fault (refl, tt)
    (subst (λ answer. Refuses (answer_demands answer claim) fault) is fails)
refused_by false false messages senders receivers claim given fault gives fails = cc

-- a partition to which the queue gives this is refused as the claim of it is
pub asked_refused : (source destination : Option ℕ) (part : ℕ) (queue : Queue) (claim : Claim) (given : Answer) (fault : ObjFault)
    → Some given ≡ option_map (λ waiting. telling (Some (channel_status queue.messages waiting))) (waiting_between source destination part queue)
    → Refuses (answer_demands given claim) fault → Refuses (asked_demands source destination part queue claim) fault
asked_refused source destination part queue =
    refused_by (is_there part source) (is_there part destination) queue.messages queue.senders.entries queue.receivers.entries

-- the channel after a partition has asked for the status: it stays, since no process is named
pub asked_after : (result : Result (Unit {0}) ObjFault) (now number place size : ℕ) (source destination : Option ℕ) (queue : Queue) (call : CallRecord) (held : Held) (port : ℤ)
    → queuing_held number size source destination queue ≡ held → call.request ≡ request.GetStatus kind.QueuingPort port → call.claim.chan ≡ Some held.number
    → OnOk result (AllHold (asked_demands source destination call.who.part queue call.claim))
    → OnOk result (IsAfterCall place now call held held)
asked_after result now number place size source destination queue call held port seen asked = rw (← seen)
    (λ through. on_ok_weaker result (λ holds configuration is.
    of_three (queuing_held number size source destination queue) _ _ _ _ _ _ (rw (asked, through, same_number number) refl)
    (stays (channel_set number Senders) queue.senders.entries holds) (stays (channel_set number Receivers) queue.receivers.entries holds)))
  where
    stays : (wanted : WaitingSet) (entries : List Entry) → AllHold (asked_demands source destination call.who.part queue call.claim)
        → entries ≡ set_after place (Call call) wanted entries
    stays wanted entries holds = sym
        (set_left place call wanted entries (rw asked refl) (rw asked refl) (rw asked (and_false (is_waiting call.claim.out)))
        ∙ without-unnamed call.claim.woken entries holds.1.1.1.1.0)
