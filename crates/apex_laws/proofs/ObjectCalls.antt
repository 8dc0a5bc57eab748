-- The services of objects use and change exactly the object that they name, by the sentences of its rule.
use Rattle.std.proofs.Common.{◌≡◌, ℕ, List, [], ◌++◌, Bool, false, cond, not, nat_eq, nat_lt, ℤ, pos, negsuc, Option, Some, None, option_map, refl, sym, ap, subst, ◌∙◌}
use Rattle.std.proofs.lemmas.Bool.{eqb-true}
use Rattle.apex_laws.specs.CallSentences.{Creates, OneBecomes, Operates}
use Rattle.apex_types.specs.declared.object_kind.ObjectKind.TheVariants as kind
use Rattle.apex_types.specs.declared.operation.ObjectOperation.TheVariants as on
use Rattle.apex_laws.proofs.Common.{Answer, AreApart, Blackboard, BlackboardOperation, Buffer, BufferOperation, Condition, Effect, Event, EventOperation, IsClearing, IsReleasing, IsResetting, Mutex, MutexOperation, NewNumber, NewObject}
use Rattle.apex_laws.proofs.Common.{ObjectCallIsTheSentence, Partition, Port, QueuingPort, Receivers, Request, SamplingOperation, SamplingPort, Semaphore, SemaphoreOperation, Senders, Who, acquire_conditions, acquired, answer_by, board_read}
use Rattle.apex_laws.proofs.Common.{buffer_received, buffer_sent, change_at, cleared, conditions_for, displayed, done_with, event_reset, event_set, event_waited, first_waiter, given_object, is_free, is_length, is_longer, is_owner}
use Rattle.apex_laws.proofs.Common.{is_queuing_port, is_sampling_port, is_valid, item_at, message_conditions, mutex_released, natural_of, new_blackboard, new_buffer, new_event, new_mutex, new_queuing_port, new_sampling_port, new_semaphore}
use Rattle.apex_laws.proofs.Common.{numbered, numbered_if, object_conditions, of_caller, owns_another, queuing_port, sampling_port, semaphore_waited, set_at, signalled, time_out_conditions, waiting_conditions, when}
use Rattle.apex_laws.proofs.Common.{IsMutexReset, hand_on}
use Rattle.apex_laws.proofs.Common.{owns_lock}
use Rattle.apex_laws.proofs.Booleans.{cannot_hold, is_itself}
use Rattle.apex_laws.proofs.Ends.{first_empty, is_created, second_empty}
use Rattle.apex_laws.proofs.ObjectRules.{blackboard_is_the_sentence, event_is_the_sentence, mutex_is_the_sentence, queue_is_the_sentence, semaphore_is_the_sentence}
use Rattle.apex_laws.proofs.Tables.{at_each, at_others, at_pushed}
use Rattle.apex_laws.proofs.Wakes.{given_entries}

-- one object changes

-- what is found of a number that isn't changed
same_found : {Object : Type 0} (test : Bool) (change : Object → Object) (found : Option Object) → test ≡ false → option_map (λ object. cond test (change object) object) found ≡ found
same_found test change None differs = refl
same_found test change (Some object) differs = rw differs refl

changes_one : {Object : Type 0} (number : ℕ) (change : Object → Object) (objects : List (ℕ × Object)) (found : Object) → item_at objects number ≡ Some found
    → OneBecomes objects (change_at number change objects) number (change found)
changes_one {Object} number change objects found at = record {
  here = at_each (λ other (object : Object). cond (nat_eq other number) (change object) object) objects number
      ∙ ap (option_map (λ (object : Object). cond (nat_eq number number) (change object) object)) at
      ∙ ap (λ test. Some (cond test (change found) found)) (is_itself number);
  others = λ other differs. at_each (λ one (object : Object). cond (nat_eq one number) (change object) object) objects other
      ∙ same_found (nat_eq other number) change (item_at objects other) (cannot_hold (nat_eq other number) (λ same. differs (eqb-true other number same)));
}

-- a service of an object that is there
acts : {Object Value : Type 0} (objects : List (ℕ × Object)) (given : ℤ) (found : Object) → given_object objects given ≡ Some found
    → (Rule : Object → Effect Value → Type 0) (put : Object → Value → Object) (rule_of : Object → Effect Value) → Rule found (rule_of found)
    → (answer : Answer) → answer ≡ (rule_of found).answer
    → Operates objects (change_at (natural_of given) (λ object. put object (rule_of object).next) objects) given Rule put answer
acts objects (negsuc n) found at Rule put rule_of rule answer gives = cc
acts {Object} {Value} objects (pos number) found at Rule put rule_of rule answer gives = record {
  number = number;
  is = refl;
  found = found;
  is_member = at;
  effect = rule_of found;
  rule = rule;
  gives = gives;
  becomes = changes_one number (λ object. put object (rule_of object).next) objects found at;
}

operates : {Object Value : Type 0} (objects : List (ℕ × Object)) (given : ℤ) (found : Object) → given_object objects given ≡ Some found
    → (Rule : Object → Effect Value → Type 0) (put : Object → Value → Object) (rule_of : Object → Effect Value) → Rule found (rule_of found)
    → Operates objects (change_at (natural_of given) (λ object. put object (rule_of object).next) objects) given Rule put (answer_by (given_object objects given) (λ object. (rule_of object).answer))
operates {Object} {Value} objects given found at Rule put rule_of rule =
    acts objects given found at Rule put rule_of rule (answer_by (given_object objects given) (λ object. (rule_of object).answer))
    (ap (λ (one : Option Object). answer_by one (λ object. (rule_of object).answer)) at)

-- creations

creates : {Object : Type 0} (objects : List (ℕ × Object)) (claimed : Option ℤ) (new : Object)
    → Creates objects (objects ++ numbered claimed new) claimed new (done_with (NewNumber (is_free objects)))
creates {Object} objects claimed new = record {
  gives = refl;
  put = λ number is none. subst (λ (one : Option ℤ). OneBecomes objects (objects ++ numbered one new) number new) (sym is) (record {
    here = at_pushed objects number new none;
    others = λ other differs. at_others objects number other new (cannot_hold (nat_eq other number) (λ same. differs (eqb-true other number same)));
  });
}

-- the object is created, if no condition holds

pub object_there : {Object : Type 0} (who : Who) (partition : Partition) (found : Option Object) (time_out : ℤ) → object_conditions who partition found time_out ≡ [] → (object : Object) × (found ≡ Some object)
object_there who partition found time_out none =
    let first = first_empty (conditions_for found (λ object. [])) (time_out_conditions time_out)
    (first_empty (conditions_for found (λ object. []) ++ time_out_conditions time_out) (waiting_conditions who partition time_out) none) in
    let is = is_created found (λ object. []) first in
    (is.0, is.1)

mapped_there : {Object : Type 0} (size_of : Object → ℕ) (found : Option Object) (size : ℕ) → option_map size_of found ≡ Some size → (object : Object) × (found ≡ Some object)
mapped_there size_of None size is = cc
mapped_there size_of (Some object) size is = (object, refl)

pub message_there : {Object : Type 0} (size_of : Object → ℕ) (found : Option Object) (length : ℤ) → message_conditions (option_map size_of found) length ≡ [] → (object : Object) × (found ≡ Some object)
message_there size_of found length none =
    let is = is_created (option_map size_of found) (λ greatest. when (is_longer greatest length) Condition.LongerThanObject)
    (first_empty (conditions_for (option_map size_of found) (λ greatest. when (is_longer greatest length) Condition.LongerThanObject)) (when (not (is_length length)) Condition.EmptyMessage) none) in
    mapped_there size_of found is.0 is.1

lone_there : {Object : Type 0} (found : Option Object) → conditions_for found (λ object. []) ≡ [] → (object : Object) × (found ≡ Some object)
lone_there found none = let is = is_created found (λ object. []) none in (is.0, is.1)

-- the mutex to be acquired is created, if no condition holds
pub mutex_there : (who : Who) (partition : Partition) (mutex time_out : ℤ) → acquire_conditions who partition mutex time_out ≡ [] → (found : Mutex) × (given_object partition.mutexes mutex ≡ Some found)
mutex_there who partition mutex time_out none =
    let conditions : Mutex → List Condition = λ found. when (of_caller (λ process. nat_lt found.priority process.current_priority) (item_at partition.table who.proc)) Condition.AboveCeiling in
    let found_conditions = conditions_for (given_object partition.mutexes mutex) conditions in
    let second = found_conditions ++ time_out_conditions time_out in
    let third = second ++ when (nat_eq who.proc 0) Condition.InitialisingCaller in
    let fourth = third ++ when (owns_another partition.mutexes mutex who.proc) Condition.OwnsAnother in
    let is = is_created (given_object partition.mutexes mutex) conditions
    (first_empty found_conditions (time_out_conditions time_out) (first_empty second (when (nat_eq who.proc 0) Condition.InitialisingCaller)
    (first_empty third (when (owns_another partition.mutexes mutex who.proc) Condition.OwnsAnother) (first_empty fourth (when (owns_lock partition who.proc) Condition.OwnsLock) none)))) in
    (is.0, is.1)

-- a port that is configured
sampling_there : (found : Option SamplingPort) (size direction refresh : ℤ) → when (not (is_sampling_port found size direction refresh)) Condition.NotAsConfigured ≡ [] → (port : SamplingPort) × (found ≡ Some port)
sampling_there None size direction refresh none = cc
sampling_there (Some port) size direction refresh none = (port, refl)

queuing_there : (found : Option QueuingPort) (size capacity way order : ℤ) → when (not (is_queuing_port found size capacity way order)) Condition.NotAsConfigured ≡ [] → (port : QueuingPort) × (found ≡ Some port)
queuing_there None size capacity way order none = cc
queuing_there (Some port) size capacity way order none = (port, refl)

pub object_call_is_the_sentence : ObjectCallIsTheSentence
object_call_is_the_sentence configuration cores core now who claimed (Request.Create name (NewObject.Buffer size capacity discipline)) partition apart none =
    (refl, creates partition.buffers claimed (new_buffer name size capacity discipline))
object_call_is_the_sentence configuration cores core now who claimed (Request.Object buffer (on.Buffer (BufferOperation.Send length time_out message))) partition apart none =
    let first = first_empty (message_conditions (option_map (λ (found : Buffer). found.size) (given_object partition.buffers buffer)) length) (time_out_conditions time_out)
    (first_empty (message_conditions (option_map (λ (found : Buffer). found.size) (given_object partition.buffers buffer)) length ++ time_out_conditions time_out) (waiting_conditions who partition time_out) none) in
    let there = message_there (λ (found : Buffer). found.size) (given_object partition.buffers buffer) length first in
    let found : Buffer = there.0 in (
      refl,
      operates partition.buffers buffer found there.1 _ (λ one messages. record one { messages = messages }) (buffer_sent message time_out)
          ((queue_is_the_sentence.0 found.capacity message time_out found.discipline found.receivers found.messages (buffer_sent message time_out found)
          (given_entries AreApart (λ (one : Buffer). one.receivers) partition.buffers buffer found there.1 (apart (set_at kind.Buffer (natural_of buffer) Receivers)))).0 refl),
    )
object_call_is_the_sentence configuration cores core now who claimed (Request.Object buffer (on.Buffer (BufferOperation.Receive time_out))) partition apart none =
    let there = object_there who partition (given_object partition.buffers buffer) time_out none in
    let found : Buffer = there.0 in (
      refl,
      operates partition.buffers buffer found there.1 _ (λ one messages. record one { messages = messages }) (buffer_received time_out)
          ((queue_is_the_sentence.1 time_out found.discipline found.senders found.messages (buffer_received time_out found)
          (given_entries AreApart (λ (one : Buffer). one.senders) partition.buffers buffer found there.1 (apart (set_at kind.Buffer (natural_of buffer) Senders)))).0 refl),
    )
object_call_is_the_sentence configuration cores core now who claimed (Request.Create name (NewObject.Blackboard size)) partition apart none =
    (refl, creates partition.blackboards claimed (new_blackboard name size))
object_call_is_the_sentence configuration cores core now who claimed (Request.Object blackboard (on.Blackboard (BlackboardOperation.Display length message))) partition apart none =
    let there = message_there (λ (found : Blackboard). found.size) (given_object partition.blackboards blackboard) length none in
    (refl, operates partition.blackboards blackboard there.0 there.1 _ (λ one message. record one { message = message }) (λ found. displayed message found.readers) refl)
object_call_is_the_sentence configuration cores core now who claimed (Request.Object blackboard (on.Blackboard (BlackboardOperation.Read time_out))) partition apart none =
    let there = object_there who partition (given_object partition.blackboards blackboard) time_out none in
    let found : Blackboard = there.0 in (
      refl,
      operates partition.blackboards blackboard found there.1 _ (λ one message. record one { message = message }) (λ found. board_read time_out found.message)
          ((blackboard_is_the_sentence.1 time_out found.message (board_read time_out found.message)).0 refl),
    )
object_call_is_the_sentence configuration cores core now who claimed (Request.Object blackboard (on.Blackboard BlackboardOperation.Clear)) partition apart none =
    let there = lone_there (given_object partition.blackboards blackboard) none in
    (refl, operates partition.blackboards blackboard there.0 there.1 (λ found effect. IsClearing effect) (λ one message. record one { message = message }) (λ found. cleared) refl)
object_call_is_the_sentence configuration cores core now who claimed (Request.Create name (NewObject.Semaphore value maximum discipline)) partition apart none =
    (refl, creates partition.semaphores claimed (new_semaphore name value maximum discipline))
object_call_is_the_sentence configuration cores core now who claimed (Request.Object semaphore (on.Semaphore (SemaphoreOperation.Wait time_out))) partition apart none =
    let there = object_there who partition (given_object partition.semaphores semaphore) time_out none in
    let found : Semaphore = there.0 in (
      refl,
      operates partition.semaphores semaphore found there.1 _ (λ one value. record one { value = value }) (λ found. semaphore_waited time_out found.value)
          ((semaphore_is_the_sentence.0 time_out found.value (semaphore_waited time_out found.value)).0 refl),
    )
object_call_is_the_sentence configuration cores core now who claimed (Request.Object semaphore (on.Semaphore SemaphoreOperation.Signal)) partition apart none =
    let there = lone_there (given_object partition.semaphores semaphore) none in
    let found : Semaphore = there.0 in (
      refl,
      operates partition.semaphores semaphore found there.1 _ (λ one value. record one { value = value }) (λ found. signalled found.maximum (first_waiter found.discipline found.waiters) found.value)
          ((semaphore_is_the_sentence.1 found.maximum found.discipline found.waiters found.value (signalled found.maximum (first_waiter found.discipline found.waiters) found.value)
          (given_entries AreApart (λ (one : Semaphore). one.waiters) partition.semaphores semaphore found there.1 (apart (set_at kind.Semaphore (natural_of semaphore) Receivers)))).0 refl),
    )
object_call_is_the_sentence configuration cores core now who claimed (Request.Create name NewObject.Event) partition apart none = (refl, creates partition.events claimed (new_event name))
object_call_is_the_sentence configuration cores core now who claimed (Request.Object event (on.Event EventOperation.Set)) partition apart none =
    let there = lone_there (given_object partition.events event) none in
    (refl, operates partition.events event there.0 there.1 _ (λ one up. record one { up = up }) (λ found. event_set found.waiters) refl)
object_call_is_the_sentence configuration cores core now who claimed (Request.Object event (on.Event EventOperation.Reset)) partition apart none =
    let there = lone_there (given_object partition.events event) none in
    (refl, operates partition.events event there.0 there.1 (λ found effect. IsResetting effect) (λ one up. record one { up = up }) (λ found. event_reset) refl)
object_call_is_the_sentence configuration cores core now who claimed (Request.Object event (on.Event (EventOperation.Wait time_out))) partition apart none =
    let there = object_there who partition (given_object partition.events event) time_out none in
    let found : Event = there.0 in (
      refl,
      operates partition.events event found there.1 _ (λ one up. record one { up = up }) (λ found. event_waited time_out found.up)
          ((event_is_the_sentence.2 time_out found.up (event_waited time_out found.up)).0 refl),
    )
object_call_is_the_sentence configuration cores core now who claimed (Request.Create name (NewObject.Mutex priority discipline)) partition apart none =
    (refl, creates partition.mutexes claimed (new_mutex name priority discipline))
object_call_is_the_sentence configuration cores core now who claimed (Request.Object mutex (on.Mutex (MutexOperation.Acquire time_out))) partition apart none =
    let there = mutex_there who partition mutex time_out none in
    let found : Mutex = there.0 in (
      refl,
      operates partition.mutexes mutex found there.1 _ (λ one changed. changed) (acquired who.proc time_out)
          ((mutex_is_the_sentence.0 who.proc time_out found (acquired who.proc time_out found)).0 refl),
    )
object_call_is_the_sentence configuration cores core now who claimed (Request.Object mutex (on.Mutex MutexOperation.Release)) partition apart none =
    let there = is_created (given_object partition.mutexes mutex) (λ found. when (not (is_owner found.owner who.proc)) Condition.NotOwner) none in
    let found : Mutex = there.0 in (
      refl,
      operates partition.mutexes mutex found there.1 (λ found effect. IsReleasing found effect) (λ one changed. changed) (λ found. mutex_released (first_waiter found.discipline found.waiters) found)
          ((mutex_is_the_sentence.1 found (mutex_released (first_waiter found.discipline found.waiters) found)
          (given_entries AreApart (λ (one : Mutex). one.waiters) partition.mutexes mutex found there.1 (apart (set_at kind.Mutex (natural_of mutex) Receivers)))).0 refl),
    )
object_call_is_the_sentence configuration cores core now who claimed (Request.Object mutex (on.Mutex (MutexOperation.Reset process))) partition apart none =
    let there = lone_there (given_object partition.mutexes mutex) (first_empty _ _ (first_empty _ _ none)) in
    let found : Mutex = there.0 in (
      refl,
      operates partition.mutexes mutex found there.1 (λ found effect. IsMutexReset found effect) (λ one changed. changed) (λ found. hand_on (first_waiter found.discipline found.waiters) found)
          ((mutex_is_the_sentence.2 found (hand_on (first_waiter found.discipline found.waiters) found)
          (given_entries AreApart (λ (one : Mutex). one.waiters) partition.mutexes mutex found there.1 (apart (set_at kind.Mutex (natural_of mutex) Receivers)))).0 refl),
    )
object_call_is_the_sentence configuration cores core now who claimed (Request.Create name (NewObject.SamplingPort size direction refresh)) partition apart none =
    let there = sampling_there (sampling_port configuration who.part name) size direction refresh (second_empty _ _ none) in
    let port : SamplingPort = there.0 in
    let new : Port = record { name = name; size = port.size; direction = port.direction; channel = port.channel; valid = false } in (
      refl,
      (
        port,
        there.1,
        subst (λ found. Creates partition.sampling_ports (partition.sampling_ports ++ numbered_if claimed (option_map (new_sampling_port name) found)) claimed new (done_with (NewNumber (is_free partition.sampling_ports))))
            (sym there.1) (creates partition.sampling_ports claimed new),
      ),
    )
object_call_is_the_sentence configuration cores core now who claimed (Request.Create name (NewObject.QueuingPort size capacity way order)) partition apart none =
    let there = queuing_there (queuing_port configuration who.part name) size capacity way order (second_empty _ _ none) in
    let port : QueuingPort = there.0 in
    let new : Port = record { name = name; size = port.size; direction = port.direction; channel = port.channel; valid = false } in (
      refl,
      (
        port,
        there.1,
        subst (λ found. Creates partition.queuing_ports (partition.queuing_ports ++ numbered_if claimed (option_map (new_queuing_port name) found)) claimed new (done_with (NewNumber (is_free partition.queuing_ports))))
            (sym there.1) (creates partition.queuing_ports claimed new),
      ),
    )
object_call_is_the_sentence configuration cores core now who claimed (Request.SamplingPort port SamplingOperation.Read) partition apart none =
    let change : Port → Port = λ found. record found { valid = is_valid claimed } in (
      refl,
      λ number found names at. subst (λ given. OneBecomes partition.sampling_ports (change_at (natural_of given) change partition.sampling_ports) number (change found)) (sym names)
          (changes_one number change partition.sampling_ports found at),
    )
object_call_is_the_sentence configuration cores core now who claimed _ partition apart none = refl
