-- What a channel's piece makes of calls, arrivals and departures: those of the channel, and those that only end waits at it.
use Rattle.std.proofs.Common.{◌≡◌, ◌≢◌, ◌<◌, ℕ, List, [], ◌∷◌, Option, Some, None, Bool, true, false, ◌||◌, Result, Ok, Err, nat_eq, refl, sym, ap, subst, ◌∙◌, eqb-true}
use Rattle.std.specs.Prelude.{IfErr, IsErrAnd, MatchResult, OnErr, OnOk, is_ok}
use Rattle.apex_types.specs.declared.cause.Cause.{Cause}
use Rattle.apex_types.specs.declared.operation.{BlackboardOperation.BlackboardOperation, BufferOperation.BufferOperation, EventOperation.EventOperation, MutexOperation.MutexOperation, QueuingOperation.QueuingOperation, SemaphoreOperation.SemaphoreOperation}
use Rattle.apex_types.specs.declared.record.Body.TheVariants.{Arrive, Call, Depart}
use Rattle.apex_types.specs.declared.record.Call.{Call as CallRecord}
use Rattle.apex_types.specs.declared.record.Crossing.{Crossing}
use Rattle.apex_types.specs.declared.record.Ordered.{Ordered}
use Rattle.apex_types.specs.declared.record.Who.{Who}
use Rattle.apex_types.specs.declared.request.Request.{Request}
use Rattle.apex_types.specs.declared.operation.ObjectOperation.TheVariants as on
use Rattle.apex_types.specs.declared.request.Request.TheVariants as request
use Rattle.apex_types.specs.declared.shape.End.TheVariants.{Senders, Receivers}
use Rattle.apex_machine.specs.declared.state.Entry.{Entry}
use Rattle.apex_machine.specs.After.{channel_after, is_channel}
use Rattle.apex_machine.specs.Configuration.{Configuration}
use Rattle.apex_machine.specs.Demands.{AllHold, Judges, LocalStep, arrival_demands, channel_demands, departure_demands, through_demands}
use Rattle.apex_machine.specs.Pieces.{ChannelPart, time_at}
use Rattle.apex_machine.specs.State.{Channel, Content, is_named, channel_set}
use Rattle.apex_machine.specs.Waiting.{ends_wait, enters, is_restart, is_the_set, is_waiting, set_of, stops, without}
use Rattle.apex_laws.specs.Laws.{AllEntries}
use Rattle.apex_laws.proofs.Booleans.{cannot_hold, is_itself, neither_first, neither_later, not_second}
use Rattle.apex_laws.proofs.Restarts.{restart_stops_none}
use Rattle.apex_laws.proofs.Waiters.{without_same, without_without}
use Rattle.channel.specs.Held.{AcceptsArrival, AcceptsDeparture, Held, IsAfterArrival, IsAfterCall, IsAfterDeparture, IsConfigured, crossed}
use Rattle.partition_state.specs.Calls.{RefusesOrWants}
use Rattle.wait_set.specs.Actors.{Refuses}
use Rattle.wait_set.specs.declared.object.ObjFault.{ObjFault}
use Rattle.wait_set.specs.declared.object.ObjFault.TheVariants.{Unlawful, Memory}
use Rattle.piece_check.specs.Parts.{EnteredBefore, WaitBefore}
use Rattle.piece_check.specs.Subjects.{is_the}

-- calls through the channel

-- a call that claims the channel goes through it
is_here : (number : ℕ) (chan : Option ℕ) → chan ≡ Some number → is_channel number chan ≡ true
is_here number chan here = rw here (is_itself number)

elsewhere : (number : ℕ) (chan : Option ℕ) → chan ≢ Some number → is_channel number chan ≡ false
elsewhere number None apart = refl
elsewhere number (Some other) apart = cannot_hold (nat_eq other number) (λ same. apart (ap Some (eqb-true other number same)))

-- what the channel refuses, its piece refuses
pub piece_refuses : (configuration : Configuration) (now number : ℕ) (channel : Channel) (call : CallRecord) (fault : ObjFault) → call.claim.chan ≡ Some number
    → Refuses (through_demands configuration now number channel call) fault → RefusesOrWants (channel_demands configuration now number channel (Call call)) fault
piece_refuses configuration now number channel call (Unlawful cause) here refuses = rw (is_here number call.claim.chan here) refuses
piece_refuses configuration now number channel call Memory here refuses = tt

-- what the channel judges, its piece judges, and of a call that does not go through the channel nothing is demanded
pub piece_judges : (configuration : Configuration) (now number : ℕ) (channel : Channel) (call : CallRecord) (judgement : Result (Unit {0}) Cause)
    → call.claim.chan ≡ Some number → Judges (through_demands configuration now number channel call) judgement
    → Judges (channel_demands configuration now number channel (Call call)) judgement
piece_judges configuration now number channel call judgement here judges = rw (is_here number call.claim.chan here) judges

pub nothing_demanded : (configuration : Configuration) (now number : ℕ) (channel : Channel) (call : CallRecord) → call.claim.chan ≢ Some number
    → AllHold (channel_demands configuration now number channel (Call call))
nothing_demanded configuration now number channel call apart = rw (elsewhere number call.claim.chan apart) tt

-- and what is configured stays
pub stays_configured : (result : Result (Unit {0}) ObjFault) (configuration : Configuration) (place now : ℕ) (call : CallRecord) (old new : Held) → IsConfigured configuration old
    → OnOk result (IsAfterCall place now call old new) → OnErr result (new ≡ old) → IsConfigured configuration new
stays_configured (Ok done) configuration place now call old new configured after same = subst (IsConfigured configuration) (sym (after configuration configured)) configured
stays_configured (Err fault) configuration place now call old new configured after same = subst (IsConfigured configuration) (sym same) configured

-- messages that arrive and depart

-- those that name the channel are of it
named_here : (number chan : ℕ) → chan ≡ number → nat_eq chan number ≡ true
named_here number chan here = rw here (is_itself number)

named_elsewhere : (number chan : ℕ) → chan ≢ number → nat_eq chan number ≡ false
named_elsewhere number chan apart = cannot_hold (nat_eq chan number) (λ same. apart (eqb-true chan number same))

-- what the channel judges, its piece judges
pub arrival_judged : (configuration : Configuration) (now number : ℕ) (channel : Channel) (crossing : Crossing) (judgement : Result (Unit {0}) Cause)
    → crossing.chan ≡ number → Judges (arrival_demands configuration now number channel crossing) judgement
    → Judges (channel_demands configuration now number channel (Arrive crossing)) judgement
arrival_judged configuration now number channel crossing judgement here judges = rw (named_here number crossing.chan here) judges

pub departure_judged : (configuration : Configuration) (now number : ℕ) (channel : Channel) (crossing : Crossing) (judgement : Result (Unit {0}) Cause)
    → crossing.chan ≡ number → Judges (departure_demands configuration now number channel crossing) judgement
    → Judges (channel_demands configuration now number channel (Depart crossing)) judgement
departure_judged configuration now number channel crossing judgement here judges = rw (named_here number crossing.chan here) judges

-- and what it refuses, its piece refuses
pub arrival_refused : (configuration : Configuration) (now number : ℕ) (channel : Channel) (crossing : Crossing) (fault : ObjFault) → crossing.chan ≡ number
    → Refuses (arrival_demands configuration now number channel crossing) fault → RefusesOrWants (channel_demands configuration now number channel (Arrive crossing)) fault
arrival_refused configuration now number channel crossing (Unlawful cause) here refuses = rw (named_here number crossing.chan here) refuses
arrival_refused configuration now number channel crossing Memory here refuses = tt

pub departure_refused : (configuration : Configuration) (now number : ℕ) (channel : Channel) (crossing : Crossing) (fault : ObjFault) → crossing.chan ≡ number
    → Refuses (departure_demands configuration now number channel crossing) fault → RefusesOrWants (channel_demands configuration now number channel (Depart crossing)) fault
departure_refused configuration now number channel crossing (Unlawful cause) here refuses = rw (named_here number crossing.chan here) refuses
departure_refused configuration now number channel crossing Memory here refuses = tt

-- what the channel accepts, its piece accepts, and the channel is then as the record leaves it
pub arrival_steps : (result : Result (Unit {0}) ObjFault) (configuration : Configuration) (times : List ℕ) (ordered : Ordered) (crossing : Crossing) (old new : Held)
    → IsConfigured configuration old → ordered.rec.body ≡ Arrive crossing → crossing.chan ≡ old.number → OnOk result (AcceptsArrival crossing old)
    → OnOk result (IsAfterArrival (time_at times ordered.core) crossing old new)
    → OnOk result (LocalStep configuration (ChannelPart old.number times old.channel) ordered (ChannelPart new.number times new.channel))
arrival_steps (Ok done) configuration times ordered crossing old new configured body here accepts after =
    subst (λ one. LocalStep configuration (ChannelPart old.number times old.channel) ordered (ChannelPart one.number times one.channel))
    (sym (after configuration configured))
    (rw (body, named_here old.number crossing.chan here) (accepts configuration (time_at times ordered.core) configured, refl))
arrival_steps (Err fault) configuration times ordered crossing old new configured body here accepts after = tt

pub departure_steps : (result : Result (Unit {0}) Cause) (mapped : Result (Unit {0}) ObjFault) (configuration : Configuration) (times : List ℕ) (ordered : Ordered) (crossing : Crossing) (old new : Held)
    → is_ok mapped ≡ is_ok result → IsConfigured configuration old → ordered.rec.body ≡ Depart crossing → crossing.chan ≡ old.number
    → OnOk result (AcceptsDeparture crossing old) → OnOk result (IsAfterDeparture crossing old new)
    → OnOk mapped (LocalStep configuration (ChannelPart old.number times old.channel) ordered (ChannelPart new.number times new.channel))
departure_steps (Ok done) (Ok mapped) configuration times ordered crossing old new same configured body here accepts after =
    let now = time_at times ordered.core in
    subst (λ one. LocalStep configuration (ChannelPart old.number times old.channel) ordered (ChannelPart one.number times one.channel))
    (sym (after configuration now configured))
    (rw (body, named_here old.number crossing.chan here) (accepts configuration now configured, refl))
departure_steps (Err why) (Ok mapped) configuration times ordered crossing old new same configured body here accepts after = let clash : true ≡ false = same in cc
departure_steps result (Err fault) configuration times ordered crossing old new same configured body here accepts after = tt

-- a cause that is given as a fault refuses as the fault does
pub refused_as_fault : (result : Result (Unit {0}) Cause) (mapped : Result (Unit {0}) ObjFault) (Refused : ObjFault → Type 0)
    → MatchResult result (λ done. mapped ≡ Ok done) (λ why. IsErrAnd mapped (λ fault. fault ≡ Unlawful why)) → IfErr result (λ why. Refused (Unlawful why)) → IfErr mapped Refused
refused_as_fault (Ok done) mapped Refused given refuses = rw given tt
refused_as_fault (Err why) (Ok mapped) Refused given refuses = absurd given
refused_as_fault (Err why) (Err fault) Refused given refuses = subst Refused (sym given) refuses

-- and what is configured stays
pub crossing_leaves_configured : {Fault : Type 0} (result : Result (Unit {0}) Fault) (configuration : Configuration) (crossing : Crossing) (content : Content) (old new : Held)
    → IsConfigured configuration old → OnOk result (new ≡ crossed crossing content old) → OnErr result (new ≡ old) → IsConfigured configuration new
crossing_leaves_configured (Ok done) configuration crossing content old new configured after same = subst (IsConfigured configuration) (sym after) configured
crossing_leaves_configured (Err fault) configuration crossing content old new configured after same = subst (IsConfigured configuration) (sym same) configured

-- of a message at another channel nothing is demanded
pub no_arrival_demanded : (configuration : Configuration) (now number : ℕ) (channel : Channel) (crossing : Crossing) → crossing.chan ≢ number
    → AllHold (channel_demands configuration now number channel (Arrive crossing))
no_arrival_demanded configuration now number channel crossing apart = rw (named_elsewhere number crossing.chan apart) tt

pub no_departure_demanded : (configuration : Configuration) (now number : ℕ) (channel : Channel) (crossing : Crossing) → crossing.chan ≢ number
    → AllHold (channel_demands configuration now number channel (Depart crossing))
no_departure_demanded configuration now number channel crossing apart = rw (named_elsewhere number crossing.chan apart) tt

-- calls that go through another channel, or through none

-- their callers enter neither of its sets
enters_neither : (number : ℕ) (asked : Request) (chan : Option ℕ) → is_channel number chan ≡ false
    → (is_the_set (channel_set number Senders) (set_of asked chan) || is_the_set (channel_set number Receivers) (set_of asked chan)) ≡ false
enters_neither number (request.QueuingPort port (QueuingOperation.Send length time_out message)) (Some channel) apart = rw apart refl
enters_neither number (request.QueuingPort port (QueuingOperation.Send length time_out message)) None apart = refl
enters_neither number (request.QueuingPort port (QueuingOperation.Receive time_out)) (Some channel) apart = rw apart refl
enters_neither number (request.QueuingPort port (QueuingOperation.Receive time_out)) None apart = refl
enters_neither number (request.QueuingPort port QueuingOperation.Clear) (Some channel) apart = refl
enters_neither number (request.QueuingPort port QueuingOperation.Clear) None apart = refl
enters_neither number (request.Object buffer (on.Buffer (BufferOperation.Receive time_out))) chan apart = refl
enters_neither number (request.Object blackboard (on.Blackboard (BlackboardOperation.Read time_out))) chan apart = refl
enters_neither number (request.Object semaphore (on.Semaphore (SemaphoreOperation.Wait time_out))) chan apart = refl
enters_neither number (request.Object event (on.Event (EventOperation.Wait time_out))) chan apart = refl
enters_neither number (request.Object mutex (on.Mutex (MutexOperation.Acquire time_out))) chan apart = refl
enters_neither number _ chan apart = refl

-- so that only those leave whose waits they end, and the others are left
pub after_letting_go : (configuration : Configuration) (now place number : ℕ) (call : CallRecord) (channel : Channel) (ordered : Ordered) (left : List Entry → List Entry)
    → call.claim.chan ≢ Some number → ordered.rec.body ≡ Call call → WaitBefore place channel
    → ((entries : List Entry) → AllEntries (EnteredBefore place) entries → without (ends_wait call) entries ≡ left entries)
    → channel_after configuration now number ordered channel ≡ record channel { senders = left channel.senders; receivers = left channel.receivers }
after_letting_go configuration now place number call channel ordered left other body before are =
    let apart = elsewhere number call.claim.chan other in
    let neither = enters_neither number call.request call.claim.chan apart in
    let senders : enters call (channel_set number Senders) ≡ false = not_second (is_waiting call.claim.out) _ (neither_first _ _ neither) in
    let receivers : enters call (channel_set number Receivers) ≡ false = not_second (is_waiting call.claim.out) _ (neither_later _ _ neither) in
    rw (body, apart, senders, receivers, are channel.senders before.senders, are channel.receivers before.receivers) refl

-- those who leave

-- the processes that a call names that restarts its partition, and all of that partition
either_order : (one other : Bool) → (one || (other || false)) ≡ (other || one)
either_order true true = refl
either_order true false = refl
either_order false true = refl
either_order false false = refl

pub left_with_part : (call : CallRecord) → is_restart call ≡ true → (entries : List Entry)
    → without (ends_wait call) entries ≡ without (λ who. nat_eq who.part call.who.part) (without (λ who. is_named who call.claim.woken) entries)
left_with_part call is entries =
    without_same (ends_wait call) (λ who. is_named who call.claim.woken || nat_eq who.part call.who.part)
    (λ who. rw (is, restart_stops_none call is who) (either_order (nat_eq who.part call.who.part) (is_named who call.claim.woken))) entries
    ∙ sym (without_without (λ who. is_named who call.claim.woken) (λ who. nat_eq who.part call.who.part) entries)

-- the processes that another call names, and those that it stops
same_there : (leaves other : Who → Bool) (place : ℕ) (entries : List Entry) → ((who : Who) → who.proc < 4294967296 → leaves who ≡ other who)
    → AllEntries (EnteredBefore place) entries → without leaves entries ≡ without other entries
same_there leaves other place [] same all = refl
same_there leaves other place (entry ∷ entries) same all = rw (same entry.who all.0.number, same_there leaves other place entries same all.1) refl

pub left_with_target : (call : CallRecord) (target : Option Who) (place : ℕ) → is_restart call ≡ false
    → ((who : Who) → who.proc < 4294967296 → stops call who ≡ is_the who target) → (entries : List Entry) → AllEntries (EnteredBefore place) entries
    → without (ends_wait call) entries ≡ without (λ who. is_the who target) (without (λ who. is_named who call.claim.woken) entries)
left_with_target call target place none stopped entries all =
    same_there (ends_wait call) (λ who. is_named who call.claim.woken || is_the who target) place entries (λ who fits. rw (none, stopped who fits) refl) all
    ∙ sym (without_without (λ who. is_named who call.claim.woken) (λ who. is_the who target) entries)

nobody_leaves : (entries : List Entry) → without (λ who. false) entries ≡ entries
nobody_leaves [] = refl
nobody_leaves (entry ∷ entries) = ap (λ others. entry ∷ others) (nobody_leaves entries)

pub left_alone : (call : CallRecord) (place : ℕ) → is_restart call ≡ false → ((who : Who) → who.proc < 4294967296 → stops call who ≡ is_the who None)
    → (entries : List Entry) → AllEntries (EnteredBefore place) entries → without (ends_wait call) entries ≡ without (λ who. is_named who call.claim.woken) entries
left_alone call place none stopped entries all = left_with_target call None place none stopped entries all ∙ nobody_leaves _
