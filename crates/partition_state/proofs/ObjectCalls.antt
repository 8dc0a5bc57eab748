-- What a call for an object makes of it.
use Rattle.std.proofs.Common.{◌≡◌, ◌≢◌, ◌≤◌, ℕ, zero, suc, ℤ, pos, negsuc, List, [], ◌∷◌, Option, Some, None, Result, Ok, Err, OnOk, Bool, true, false, length, nat_eq, nat_lt, refl, sym, ap, ◌∙◌, cond}
use Rattle.std.specs.Option.{IfSome}
use Rattle.apex_types.specs.declared.object_kind.ObjectKind.TheVariants as kind
use Rattle.apex_types.specs.declared.operation.{BlackboardOperation.BlackboardOperation, BufferOperation.BufferOperation, EventOperation.EventOperation, MutexOperation.MutexOperation, SemaphoreOperation.SemaphoreOperation}
use Rattle.apex_types.specs.declared.record.Body.TheVariants.{Call}
use Rattle.apex_types.specs.declared.record.Call.{Call as CallRecord}
use Rattle.apex_types.specs.declared.record.Claim.{Claim}
use Rattle.apex_types.specs.declared.record.Out.{Out}
use Rattle.apex_types.specs.declared.operation.ObjectOperation.TheVariants as on
use Rattle.apex_types.specs.declared.request.Request.TheVariants as request
use Rattle.apex_types.specs.declared.shape.End.TheVariants.{Senders, Receivers}
use Rattle.apex_machine.specs.declared.state.CoreState.{CoreState}
use Rattle.apex_machine.specs.declared.state.Entry.{Entry}
use Rattle.apex_machine.specs.declared.state.WaitingSet.{WaitingSet}
use Rattle.apex_machine.specs.After.{is_done, with_sets}
use Rattle.apex_machine.specs.Answer.{Answer}
use Rattle.apex_machine.specs.Arguments.{natural_of}
use Rattle.apex_machine.specs.Configuration.{Configuration}
use Rattle.apex_machine.specs.Demands.{AllHold}
use Rattle.apex_machine.specs.Objects.{acquired_from, blackboard_effect, board_read, buffer_effect, event_effect, event_waited, handed_on, message_by, messages_by, mutex_effect, mutex_released, semaphore_effect, semaphore_waited, signalled, up_by, value_by}
use Rattle.apex_machine.specs.Queue.{Messages, received, sent}
use Rattle.apex_machine.specs.State.{Blackboard, Buffer, Event, Mutex, Partition, Semaphore, change_at, given_object, item_at, set_at, time_of}
use Rattle.apex_machine.specs.Waiting.{first_waiter, is_waiting, set_after}
use Rattle.apex_laws.specs.Laws.{IsInOrder, are_distinct}
use Rattle.apex_laws.specs.PartObjects.{used_by, objects_changed}
use Rattle.apex_laws.proofs.Objects.{mutex_keeps}
use Rattle.partition_objects.specs.Blackboards as blackboards
use Rattle.partition_objects.specs.Buffers as buffers
use Rattle.partition_objects.specs.Events as events
use Rattle.partition_objects.specs.Mutexes as mutexes
use Rattle.partition_objects.specs.Semaphores as semaphores
use Rattle.scheduling.specs.declared.transfer.Transfer.{Transfer}
use Rattle.wait_set.specs.declared.object.Actor.{Actor}
use Rattle.wait_set.specs.declared.object.ObjFault.{ObjFault}
use Rattle.wait_set.specs.Actors.{entry_with, joined_by}
use Rattle.wait_set.specs.Sets.{IsNewInEach}
use Rattle.partition_state.specs.Calls.{IsAtWork, IsClear, actor_of, objects_served, served, used_demands}
use Rattle.partition_state.proofs.Clear.{at_work, blackboard_found, buffer_found, event_found, mutex_found, semaphore_found}
use Rattle.partition_state.proofs.Found.{with_false, with_true}
use Rattle.partition_state.proofs.Served.{one_is_served}
use Rattle.partition_state.proofs.Sets.{change_given, either_way, in_order, is_new, same_number, set_joined, set_joined_plainly, set_left, set_left_plainly}
use Rattle.apex_types.specs.declared.operation.ObjectOperation.{ObjectOperation}

-- the caller is new in the waiting sets of the object, if it is in those of each object
pub new_there : {Object : Type 0} (actor : Actor) (sets : Object → List (List Entry)) (objects : List (ℕ × Object)) (given : ℤ)
    → ((number : ℕ) (found : Object) → item_at objects number ≡ Some found → IsNewInEach (entry_with actor []) (sets found))
    → IfSome (given_object objects given) (λ found. IsNewInEach (entry_with actor []) (sets found))
new_there actor sets objects (negsuc n) new = tt
new_there {Object} actor sets objects (pos n) new = by (item_at objects n) refl
  where
    by : (found : Option Object) → item_at objects n ≡ found → IfSome found (λ object. IsNewInEach (entry_with actor []) (sets object))
    by None at = tt
    by (Some found) at = new n found at

pub buffer_new : (place : ℕ) (partition : Partition) (call : CallRecord) (given : ℤ) → IsAtWork place partition call.who
    → IfSome (given_object partition.buffers given) (λ found. IsNewInEach (entry_with (actor_of place call) []) (buffers.sets found))
buffer_new place partition call given at_work =
    new_there (actor_of place call) buffers.sets partition.buffers given
    (λ n found at. (
      is_new place partition call.who call.claim.prio [] at_work (set_at kind.Buffer n Senders) found.senders (rw at refl),
      (is_new place partition call.who call.claim.prio [] at_work (set_at kind.Buffer n Receivers) found.receivers (rw at refl), tt),
    ))

pub blackboard_new : (place : ℕ) (partition : Partition) (call : CallRecord) (given : ℤ) → IsAtWork place partition call.who
    → IfSome (given_object partition.blackboards given) (λ found. IsNewInEach (entry_with (actor_of place call) []) (found.readers ∷ []))
blackboard_new place partition call given at_work =
    new_there (actor_of place call) (λ found. found.readers ∷ []) partition.blackboards given
    (λ n found at. (is_new place partition call.who call.claim.prio [] at_work (set_at kind.Blackboard n Receivers) found.readers (rw at refl), tt))

pub semaphore_new : (place : ℕ) (partition : Partition) (call : CallRecord) (given : ℤ) → IsAtWork place partition call.who
    → IfSome (given_object partition.semaphores given) (λ found. IsNewInEach (entry_with (actor_of place call) []) (found.waiters ∷ []))
semaphore_new place partition call given at_work =
    new_there (actor_of place call) (λ found. found.waiters ∷ []) partition.semaphores given
    (λ n found at. (is_new place partition call.who call.claim.prio [] at_work (set_at kind.Semaphore n Receivers) found.waiters (rw at refl), tt))

pub event_new : (place : ℕ) (partition : Partition) (call : CallRecord) (given : ℤ) → IsAtWork place partition call.who
    → IfSome (given_object partition.events given) (λ found. IsNewInEach (entry_with (actor_of place call) []) (found.waiters ∷ []))
event_new place partition call given at_work =
    new_there (actor_of place call) (λ found. found.waiters ∷ []) partition.events given
    (λ n found at. (is_new place partition call.who call.claim.prio [] at_work (set_at kind.Event n Receivers) found.waiters (rw at refl), tt))

pub mutex_new : (place : ℕ) (partition : Partition) (call : CallRecord) (given : ℤ) → IsAtWork place partition call.who
    → IfSome (given_object partition.mutexes given) (λ found. IsNewInEach (entry_with (actor_of place call) []) (found.waiters ∷ []))
mutex_new place partition call given at_work =
    new_there (actor_of place call) (λ found. found.waiters ∷ []) partition.mutexes given
    (λ n found at. (is_new place partition call.who call.claim.prio [] at_work (set_at kind.Mutex n Receivers) found.waiters (rw at refl), tt))

-- what an operation on the mutex asks of it: its count is not above the place
pub owes_there : (actor : Actor) (operation : MutexOperation) (given : Option Mutex) → IfSome given (λ found. found.count ≤ actor.place) → IfSome given (λ found. mutexes.Needs actor operation found)
owes_there actor operation None counted = tt
owes_there actor (MutexOperation.Acquire time_out) (Some found) counted = counted
owes_there actor MutexOperation.Release (Some found) counted = tt
owes_there actor (MutexOperation.Reset process) (Some found) counted = tt

-- if the call is not done, its rule leaves the object, and so each part of it
whole : {Part Object : Type 0} (with_part : Part → Object) (done : Bool) (part next : Part) → cond done next part ≡ next
    → cond done (with_part next) (with_part part) ≡ with_part next
whole with_part true part next same = refl
whole with_part false part next same = ap with_part same

-- the messages after a send that is claimed as it is answered
messages_sent : (out : Out) (capacity : ℕ) (message : List ℕ) (time_out : ℤ) (first : Option Entry) (messages : Messages)
    → out ≡ (sent capacity message time_out first messages).answer.out
    → cond (is_done out) (sent capacity message time_out first messages).next messages ≡ (sent capacity message time_out first messages).next
messages_sent out capacity message time_out (Some receiver) messages is = either_way (is_done out) messages messages refl
messages_sent out capacity message time_out None messages is = by (nat_lt (length messages) capacity) refl
  where
    by : (b : Bool) → nat_lt (length messages) capacity ≡ b
        → cond (is_done out) (sent capacity message time_out None messages).next messages ≡ (sent capacity message time_out None messages).next
    by true e = let there = rw e at is in rw (e, there) refl
    by false e = rw e (either_way (is_done out) messages messages refl)

-- the messages after a receive that is claimed as it is answered
messages_received : (out : Out) (time_out : ℤ) (first : Option Entry) (messages : Messages) → out ≡ (received time_out first messages).answer.out
    → cond (is_done out) (received time_out first messages).next messages ≡ (received time_out first messages).next
messages_received out time_out first [] is = either_way (is_done out) [] [] refl
messages_received out time_out None (message ∷ others) is = rw is refl
messages_received out time_out (Some sender) (message ∷ others) is = rw is refl

messages_whole : (out : Out) (operation : BufferOperation) (found : Buffer) → out ≡ (messages_by operation found).answer.out
    → cond (is_done out) (messages_by operation found).next found.messages ≡ (messages_by operation found).next
messages_whole out (BufferOperation.Send size time_out message) found is =
    messages_sent out found.capacity message time_out (first_waiter found.discipline found.receivers) found.messages is
messages_whole out (BufferOperation.Receive time_out) found is = messages_received out time_out (first_waiter found.discipline found.senders) found.messages is

message_whole : (out : Out) (operation : BlackboardOperation) (found : Blackboard) → out ≡ (message_by operation found).answer.out
    → cond (is_done out) (message_by operation found).next found.message ≡ (message_by operation found).next
message_whole out (BlackboardOperation.Display length message) found is = rw is refl
message_whole out (BlackboardOperation.Read time_out) found is = looked found.message is
  where
    looked : (message : Option (List ℕ)) → out ≡ (board_read time_out message).answer.out
        → cond (is_done out) (board_read time_out message).next message ≡ (board_read time_out message).next
    looked (Some message) is = either_way (is_done out) (Some message) (Some message) refl
    looked None is = either_way (is_done out) None None refl
message_whole out BlackboardOperation.Clear found is = rw is refl

-- the value after a wait that is claimed as it is answered
value_waited : (out : Out) (time_out : ℤ) (value : ℕ) → out ≡ (semaphore_waited time_out value).answer.out
    → cond (is_done out) (semaphore_waited time_out value).next value ≡ (semaphore_waited time_out value).next
value_waited out time_out zero is = either_way (is_done out) zero zero refl
value_waited out time_out (suc value) is = rw is refl

-- the value after a signal that is claimed as it is answered
value_signalled : (out : Out) (maximum : ℕ) (first : Option Entry) (value : ℕ) → out ≡ (signalled maximum first value).answer.out
    → cond (is_done out) (signalled maximum first value).next value ≡ (signalled maximum first value).next
value_signalled out maximum (Some waiter) value is = either_way (is_done out) value value refl
value_signalled out maximum None value is = by (nat_lt value maximum) refl
  where
    by : (b : Bool) → nat_lt value maximum ≡ b → cond (is_done out) (signalled maximum None value).next value ≡ (signalled maximum None value).next
    by true e = let there = rw e at is in rw (e, there) refl
    by false e = rw e (either_way (is_done out) value value refl)

value_whole : (out : Out) (operation : SemaphoreOperation) (found : Semaphore) → out ≡ (value_by operation found).answer.out
    → cond (is_done out) (value_by operation found).next found.value ≡ (value_by operation found).next
value_whole out (SemaphoreOperation.Wait time_out) found is = value_waited out time_out found.value is
value_whole out SemaphoreOperation.Signal found is = value_signalled out found.maximum (first_waiter found.discipline found.waiters) found.value is

up_whole : (out : Out) (operation : EventOperation) (found : Event) → out ≡ (up_by operation found).answer.out
    → cond (is_done out) (up_by operation found).next found.up ≡ (up_by operation found).next
up_whole out EventOperation.Set found is = rw is refl
up_whole out EventOperation.Reset found is = rw is refl
up_whole out (EventOperation.Wait time_out) found is = waited found.up is
  where
    waited : (up : Bool) → out ≡ (event_waited time_out up).answer.out → cond (is_done out) (event_waited time_out up).next up ≡ (event_waited time_out up).next
    waited true is = either_way (is_done out) true true refl
    waited false is = either_way (is_done out) false false refl

-- the mutex after an acquisition that is claimed as it is answered
done_acquired : (out : Out) (owner : Option ℕ) (caller : ℕ) (time_out : ℤ) (found : Mutex) → out ≡ (acquired_from owner caller time_out found).answer.out
    → cond (is_done out) (acquired_from owner caller time_out found).next found ≡ (acquired_from owner caller time_out found).next
done_acquired out None caller time_out found is = rw is refl
done_acquired out (Some owner) caller time_out found is = by (nat_eq owner caller) refl
  where
    by : (b : Bool) → nat_eq owner caller ≡ b
        → cond (is_done out) (acquired_from (Some owner) caller time_out found).next found ≡ (acquired_from (Some owner) caller time_out found).next
    by true e = let there = rw e at is in rw (e, there) refl
    by false e = rw e (either_way (is_done out) found found refl)

-- the mutex after it is handed on by a call that is claimed as it is answered
done_handed : (out : Out) (first : Option Entry) (found : Mutex) → out ≡ (handed_on first found).answer.out
    → cond (is_done out) (handed_on first found).next found ≡ (handed_on first found).next
done_handed out None found is = rw is refl
done_handed out (Some waiter) found is = rw is refl

-- the mutex after a release that is claimed as it is answered
done_released : (out : Out) (first : Option Entry) (found : Mutex) → out ≡ (mutex_released first found).answer.out
    → cond (is_done out) (mutex_released first found).next found ≡ (mutex_released first found).next
done_released out first found is = by (nat_lt 1 found.count) refl
  where
    by : (b : Bool) → nat_lt 1 found.count ≡ b → cond (is_done out) (mutex_released first found).next found ≡ (mutex_released first found).next
    by true e = let there = rw e at is in rw (e, there) refl
    by false e = let there = rw e at is in rw e (done_handed out first found there)

pub mutex_whole : (out : Out) (caller : ℕ) (operation : MutexOperation) (found : Mutex) → out ≡ (mutex_effect caller operation found).answer.out
    → cond (is_done out) (mutex_effect caller operation found).next found ≡ (mutex_effect caller operation found).next
mutex_whole out caller (MutexOperation.Acquire time_out) found is = done_acquired out found.owner caller time_out found is
mutex_whole out caller MutexOperation.Release found is = done_released out (first_waiter found.discipline found.waiters) found is
mutex_whole out caller (MutexOperation.Reset process) found is = done_handed out (first_waiter found.discipline found.waiters) found is

-- the object after the call, by its kind

buffer_becomes : (place : ℕ) (call : CallRecord) (buffer : ℤ) (operation : BufferOperation) (found : Buffer) → call.request ≡ request.Object buffer (on.Buffer operation)
    → IsInOrder place found.senders → IsInOrder place found.receivers → call.claim.out ≡ (buffer_effect operation found).answer.out
    → buffers.after (actor_of place call) operation call.claim found
    ≡ used_by kind.Buffer place call (natural_of buffer) (λ found. (buffer_effect operation found).next) found
buffer_becomes place call buffer operation found asked sends receives is =
    (λ i. record (buffer_effect operation found).next { senders = (sym (sending operation asked) i); receivers = (sym (receiving operation asked) i) })
    ∙ sym (ap (with_sets kind.Buffer (set_after place (Call call)) (natural_of buffer))
    (whole (λ messages. record found { messages = messages }) (is_done call.claim.out) found.messages (messages_by operation found).next (messages_whole call.claim.out operation found is)))
  where
    sending : (operation : BufferOperation) → call.request ≡ request.Object buffer (on.Buffer operation)
        → set_after place (Call call) (set_at kind.Buffer (natural_of buffer) Senders) found.senders ≡ buffers.senders_after (actor_of place call) operation call.claim found.senders
    sending (BufferOperation.Send size time_out message) asked =
        set_joined place call (set_at kind.Buffer (natural_of buffer) Senders) found.senders (rw asked refl) (rw asked refl) sends
        (rw (asked, same_number (natural_of buffer)) (with_true (is_waiting call.claim.out)))
        ∙ ap (λ bytes. joined_by (actor_of place call) call.claim bytes found.senders) (rw asked refl)
    sending (BufferOperation.Receive time_out) asked =
        set_left place call (set_at kind.Buffer (natural_of buffer) Senders) found.senders (rw asked refl) (rw asked refl) (rw (asked, same_number (natural_of buffer)) (with_false (is_waiting call.claim.out)))

    receiving : (operation : BufferOperation) → call.request ≡ request.Object buffer (on.Buffer operation)
        → set_after place (Call call) (set_at kind.Buffer (natural_of buffer) Receivers) found.receivers ≡ buffers.receivers_after (actor_of place call) operation call.claim found.receivers
    receiving (BufferOperation.Send size time_out message) asked =
        set_left place call (set_at kind.Buffer (natural_of buffer) Receivers) found.receivers (rw asked refl) (rw asked refl) (rw (asked, same_number (natural_of buffer)) (with_false (is_waiting call.claim.out)))
    receiving (BufferOperation.Receive time_out) asked =
        set_joined_plainly place call (set_at kind.Buffer (natural_of buffer) Receivers) found.receivers (rw asked refl) (rw asked refl) (rw asked refl)
        (rw (asked, same_number (natural_of buffer)) refl) receives

blackboard_becomes : (place : ℕ) (call : CallRecord) (blackboard : ℤ) (operation : BlackboardOperation) (found : Blackboard) → call.request ≡ request.Object blackboard (on.Blackboard operation)
    → IsInOrder place found.readers → call.claim.out ≡ (blackboard_effect operation found).answer.out
    → blackboards.after (actor_of place call) operation call.claim found
    ≡ used_by kind.Blackboard place call (natural_of blackboard) (λ found. (blackboard_effect operation found).next) found
blackboard_becomes place call blackboard operation found asked order is =
    ap (λ readers. record (blackboard_effect operation found).next { readers = readers }) (sym (reading operation asked))
    ∙ sym (ap (with_sets kind.Blackboard (set_after place (Call call)) (natural_of blackboard))
    (whole (λ message. record found { message = message }) (is_done call.claim.out) found.message (message_by operation found).next (message_whole call.claim.out operation found is)))
  where
    wanted : WaitingSet
    wanted = set_at kind.Blackboard (natural_of blackboard) Receivers

    reading : (operation : BlackboardOperation) → call.request ≡ request.Object blackboard (on.Blackboard operation)
        → set_after place (Call call) wanted found.readers ≡ blackboards.readers_after (actor_of place call) operation call.claim found.readers
    reading (BlackboardOperation.Read time_out) asked =
        set_joined_plainly place call wanted found.readers (rw asked refl) (rw asked refl) (rw asked refl) (rw (asked, same_number (natural_of blackboard)) refl) order
    reading (BlackboardOperation.Display length message) asked = set_left_plainly place call wanted found.readers (rw asked refl) (rw asked refl) (rw asked refl)
    reading BlackboardOperation.Clear asked = set_left_plainly place call wanted found.readers (rw asked refl) (rw asked refl) (rw asked refl)

semaphore_becomes : (place : ℕ) (call : CallRecord) (semaphore : ℤ) (operation : SemaphoreOperation) (found : Semaphore) → call.request ≡ request.Object semaphore (on.Semaphore operation)
    → IsInOrder place found.waiters → call.claim.out ≡ (semaphore_effect operation found).answer.out
    → semaphores.after (actor_of place call) operation call.claim found
    ≡ used_by kind.Semaphore place call (natural_of semaphore) (λ found. (semaphore_effect operation found).next) found
semaphore_becomes place call semaphore operation found asked order is =
    ap (λ waiters. record (semaphore_effect operation found).next { waiters = waiters }) (sym (waiting operation asked))
    ∙ sym (ap (with_sets kind.Semaphore (set_after place (Call call)) (natural_of semaphore))
    (whole (λ value. record found { value = value }) (is_done call.claim.out) found.value (value_by operation found).next (value_whole call.claim.out operation found is)))
  where
    wanted : WaitingSet
    wanted = set_at kind.Semaphore (natural_of semaphore) Receivers

    waiting : (operation : SemaphoreOperation) → call.request ≡ request.Object semaphore (on.Semaphore operation)
        → set_after place (Call call) wanted found.waiters ≡ semaphores.waiters_after (actor_of place call) operation call.claim found.waiters
    waiting (SemaphoreOperation.Wait time_out) asked =
        set_joined_plainly place call wanted found.waiters (rw asked refl) (rw asked refl) (rw asked refl) (rw (asked, same_number (natural_of semaphore)) refl) order
    waiting SemaphoreOperation.Signal asked = set_left_plainly place call wanted found.waiters (rw asked refl) (rw asked refl) (rw asked refl)

event_becomes : (place : ℕ) (call : CallRecord) (event : ℤ) (operation : EventOperation) (found : Event) → call.request ≡ request.Object event (on.Event operation)
    → IsInOrder place found.waiters → call.claim.out ≡ (event_effect operation found).answer.out
    → events.after (actor_of place call) operation call.claim found
    ≡ used_by kind.Event place call (natural_of event) (λ found. (event_effect operation found).next) found
event_becomes place call event operation found asked order is =
    ap (λ waiters. record (event_effect operation found).next { waiters = waiters }) (sym (waiting operation asked))
    ∙ sym (ap (with_sets kind.Event (set_after place (Call call)) (natural_of event))
    (whole (λ up. record found { up = up }) (is_done call.claim.out) found.up (up_by operation found).next (up_whole call.claim.out operation found is)))
  where
    wanted : WaitingSet
    wanted = set_at kind.Event (natural_of event) Receivers

    waiting : (operation : EventOperation) → call.request ≡ request.Object event (on.Event operation)
        → set_after place (Call call) wanted found.waiters ≡ events.waiters_after (actor_of place call) operation call.claim found.waiters
    waiting (EventOperation.Wait time_out) asked =
        set_joined_plainly place call wanted found.waiters (rw asked refl) (rw asked refl) (rw asked refl) (rw (asked, same_number (natural_of event)) refl) order
    waiting EventOperation.Set asked = set_left_plainly place call wanted found.waiters (rw asked refl) (rw asked refl) (rw asked refl)
    waiting EventOperation.Reset asked = set_left_plainly place call wanted found.waiters (rw asked refl) (rw asked refl) (rw asked refl)

mutex_becomes : (place : ℕ) (call : CallRecord) (mutex : ℤ) (operation : MutexOperation) (found : Mutex) → call.request ≡ request.Object mutex (on.Mutex operation)
    → IsInOrder place found.waiters → call.claim.out ≡ (mutex_effect call.who.proc operation found).answer.out
    → mutexes.after (actor_of place call) operation call.claim found
    ≡ used_by kind.Mutex place call (natural_of mutex) (λ found. (mutex_effect call.who.proc operation found).next) found
mutex_becomes place call mutex operation found asked order is =
    ap (λ waiters. record (mutex_effect call.who.proc operation found).next { waiters = waiters })
    (sym (waiting operation asked) ∙ ap (set_after place (Call call) wanted) (sym (mutex_keeps call.who.proc operation found)))
    ∙ sym (ap (with_sets kind.Mutex (set_after place (Call call)) (natural_of mutex)) (mutex_whole call.claim.out call.who.proc operation found is))
  where
    wanted : WaitingSet
    wanted = set_at kind.Mutex (natural_of mutex) Receivers

    waiting : (operation : MutexOperation) → call.request ≡ request.Object mutex (on.Mutex operation)
        → set_after place (Call call) wanted found.waiters ≡ mutexes.waiters_after (actor_of place call) operation call.claim found.waiters
    waiting (MutexOperation.Acquire time_out) asked =
        set_joined_plainly place call wanted found.waiters (rw asked refl) (rw asked refl) (rw asked refl) (rw (asked, same_number (natural_of mutex)) refl) order
    waiting MutexOperation.Release asked = set_left_plainly place call wanted found.waiters (rw asked refl) (rw asked refl) (rw asked refl)
    waiting (MutexOperation.Reset process) asked = set_left_plainly place call wanted found.waiters (rw asked refl) (rw asked refl) (rw asked refl)

-- so the objects of a kind are after the call

becomes_there : {Object : Type 0} (given : ℤ) (objects : List (ℕ × Object)) (gives : Object → Answer) (after used : Object → Object) (claim : Claim)
    → are_distinct objects ≡ true → given_object objects given ≢ None → AllHold (used_demands objects given gives claim)
    → ((found : Object) → item_at objects (natural_of given) ≡ Some found → claim.out ≡ (gives found).out → after found ≡ used found)
    → change_at (natural_of given) after objects ≡ change_at (natural_of given) used objects
becomes_there given objects gives after used claim distinct there holds becomes =
    change_given given after used objects distinct there (λ found here at. becomes found at (rw here at holds).0)

pub buffers_served : (configuration : Configuration) (cores : List CoreState) (place core : ℕ) (partition : Partition) (call : CallRecord) (given : ℤ) (operation : BufferOperation)
    → IsClear configuration cores place core partition call → call.request ≡ request.Object given (on.Buffer operation) → (result : Result Transfer ObjFault) (next : List (ℕ × Buffer))
    → OnOk result (AllHold (used_demands partition.buffers given (buffers.answer (actor_of place call) operation) call.claim))
    → OnOk result (next ≡ change_at (natural_of given) (buffers.after (actor_of place call) operation call.claim) partition.buffers)
    → OnOk result (record partition { buffers = next } ≡ objects_served configuration place call (request.Object given (on.Buffer operation)) partition)
buffers_served configuration cores place core partition call given operation clear asked (Err fault) next holds is = tt
buffers_served configuration cores place core partition call given operation clear asked (Ok transfer) next holds is =
    let work = at_work configuration cores place core partition call clear in
    ap (λ buffers. record partition { buffers = buffers })
    (is ∙ becomes_there given partition.buffers (buffers.answer (actor_of place call) operation) _ _ call.claim (work.sound.objects kind.Buffer)
    (buffer_found configuration (time_of cores core) call.who partition given operation (rw asked at clear.conditions)) holds
    (λ found at same. buffer_becomes place call given operation found asked (in_order place partition call.who work (set_at kind.Buffer (natural_of given) Senders) found.senders (rw at refl)) (in_order place partition call.who work (set_at kind.Buffer (natural_of given) Receivers) found.receivers (rw at refl)) same))

pub blackboards_served : (configuration : Configuration) (cores : List CoreState) (place core : ℕ) (partition : Partition) (call : CallRecord) (given : ℤ) (operation : BlackboardOperation)
    → IsClear configuration cores place core partition call → call.request ≡ request.Object given (on.Blackboard operation) → (result : Result Transfer ObjFault) (next : List (ℕ × Blackboard))
    → OnOk result (AllHold (used_demands partition.blackboards given (λ found. (blackboard_effect operation found).answer) call.claim))
    → OnOk result (next ≡ change_at (natural_of given) (blackboards.after (actor_of place call) operation call.claim) partition.blackboards)
    → OnOk result (record partition { blackboards = next } ≡ objects_served configuration place call (request.Object given (on.Blackboard operation)) partition)
blackboards_served configuration cores place core partition call given operation clear asked (Err fault) next holds is = tt
blackboards_served configuration cores place core partition call given operation clear asked (Ok transfer) next holds is =
    let work = at_work configuration cores place core partition call clear in
    ap (λ blackboards. record partition { blackboards = blackboards })
    (is ∙ becomes_there given partition.blackboards (λ found. (blackboard_effect operation found).answer) _ _ call.claim (work.sound.objects kind.Blackboard)
    (blackboard_found configuration (time_of cores core) call.who partition given operation (rw asked at clear.conditions)) holds
    (λ found at same. blackboard_becomes place call given operation found asked (in_order place partition call.who work (set_at kind.Blackboard (natural_of given) Receivers) found.readers (rw at refl)) same))

pub semaphores_served : (configuration : Configuration) (cores : List CoreState) (place core : ℕ) (partition : Partition) (call : CallRecord) (given : ℤ) (operation : SemaphoreOperation)
    → IsClear configuration cores place core partition call → call.request ≡ request.Object given (on.Semaphore operation) → (result : Result Transfer ObjFault) (next : List (ℕ × Semaphore))
    → OnOk result (AllHold (used_demands partition.semaphores given (λ found. (semaphore_effect operation found).answer) call.claim))
    → OnOk result (next ≡ change_at (natural_of given) (semaphores.after (actor_of place call) operation call.claim) partition.semaphores)
    → OnOk result (record partition { semaphores = next } ≡ objects_served configuration place call (request.Object given (on.Semaphore operation)) partition)
semaphores_served configuration cores place core partition call given operation clear asked (Err fault) next holds is = tt
semaphores_served configuration cores place core partition call given operation clear asked (Ok transfer) next holds is =
    let work = at_work configuration cores place core partition call clear in
    ap (λ semaphores. record partition { semaphores = semaphores })
    (is ∙ becomes_there given partition.semaphores (λ found. (semaphore_effect operation found).answer) _ _ call.claim (work.sound.objects kind.Semaphore)
    (semaphore_found configuration (time_of cores core) call.who partition given operation (rw asked at clear.conditions)) holds
    (λ found at same. semaphore_becomes place call given operation found asked (in_order place partition call.who work (set_at kind.Semaphore (natural_of given) Receivers) found.waiters (rw at refl)) same))

pub events_served : (configuration : Configuration) (cores : List CoreState) (place core : ℕ) (partition : Partition) (call : CallRecord) (given : ℤ) (operation : EventOperation)
    → IsClear configuration cores place core partition call → call.request ≡ request.Object given (on.Event operation) → (result : Result Transfer ObjFault) (next : List (ℕ × Event))
    → OnOk result (AllHold (used_demands partition.events given (λ found. (event_effect operation found).answer) call.claim))
    → OnOk result (next ≡ change_at (natural_of given) (events.after (actor_of place call) operation call.claim) partition.events)
    → OnOk result (record partition { events = next } ≡ objects_served configuration place call (request.Object given (on.Event operation)) partition)
events_served configuration cores place core partition call given operation clear asked (Err fault) next holds is = tt
events_served configuration cores place core partition call given operation clear asked (Ok transfer) next holds is =
    let work = at_work configuration cores place core partition call clear in
    ap (λ events. record partition { events = events })
    (is ∙ becomes_there given partition.events (λ found. (event_effect operation found).answer) _ _ call.claim (work.sound.objects kind.Event)
    (event_found configuration (time_of cores core) call.who partition given operation (rw asked at clear.conditions)) holds
    (λ found at same. event_becomes place call given operation found asked (in_order place partition call.who work (set_at kind.Event (natural_of given) Receivers) found.waiters (rw at refl)) same))

pub mutexes_served : (configuration : Configuration) (cores : List CoreState) (place core : ℕ) (partition : Partition) (call : CallRecord) (given : ℤ) (operation : MutexOperation)
    → IsClear configuration cores place core partition call → call.request ≡ request.Object given (on.Mutex operation) → (result : Result Transfer ObjFault) (next : List (ℕ × Mutex))
    → OnOk result (AllHold (used_demands partition.mutexes given (λ found. (mutex_effect call.who.proc operation found).answer) call.claim))
    → OnOk result (next ≡ change_at (natural_of given) (mutexes.after (actor_of place call) operation call.claim) partition.mutexes)
    → OnOk result (record partition { mutexes = next } ≡ objects_served configuration place call (request.Object given (on.Mutex operation)) partition)
mutexes_served configuration cores place core partition call given operation clear asked (Err fault) next holds is = tt
mutexes_served configuration cores place core partition call given operation clear asked (Ok transfer) next holds is =
    let work = at_work configuration cores place core partition call clear in
    ap (λ mutexes. record partition { mutexes = mutexes })
    (is ∙ becomes_there given partition.mutexes (λ found. (mutex_effect call.who.proc operation found).answer) _ _ call.claim (work.sound.objects kind.Mutex)
    (mutex_found configuration (time_of cores core) call.who partition given operation (rw asked at clear.conditions)) holds
    (λ found at same. mutex_becomes place call given operation found asked (in_order place partition call.who work (set_at kind.Mutex (natural_of given) Receivers) found.waiters (rw at refl)) same))

-- the configuration says nothing of an operation on an object
pub in_any : (configuration : Configuration) (place : ℕ) (call : CallRecord) (given : ℤ) (operation : ObjectOperation) (partition new : Partition) (result : Result Transfer ObjFault)
    → OnOk result (new ≡ objects_served configuration place call (request.Object given operation) partition)
    → OnOk result ((any : Configuration) → new ≡ objects_changed any place call (request.Object given operation) partition)
in_any configuration place call given operation partition new (Ok transfer) is = λ any. is
in_any configuration place call given operation partition new (Err fault) is = tt

pub of_any : (configuration : Configuration) (place : ℕ) (call : CallRecord) (given : ℤ) (operation : ObjectOperation) (partition new : Partition) (result : Result Transfer ObjFault)
    → OnOk result ((any : Configuration) → new ≡ objects_changed any place call (request.Object given operation) partition)
    → OnOk result (new ≡ served configuration place call (request.Object given operation) partition)
of_any configuration place call given operation partition new (Ok transfer) is =
    one_is_served configuration place call (request.Object given operation) partition new refl refl (is configuration)
of_any configuration place call given operation partition new (Err fault) is = tt
