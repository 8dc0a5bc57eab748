-- What each service of an object does to the objects of its caller's partition, in sentences: which object and which of its waiting sets it
-- uses, by which rule, and that the others stay.
use Rattle.std.specs.Prelude.{◌≡◌, ℕ, ℤ, pos, List, [], Option, Some, None, false}
use Rattle.apex_types.specs.declared.record.Who.{Who}
use Rattle.apex_types.specs.declared.operation.{BlackboardOperation.BlackboardOperation, BufferOperation.BufferOperation, EventOperation.EventOperation, MutexOperation.MutexOperation, NewObject.NewObject, SamplingOperation.SamplingOperation, SemaphoreOperation.SemaphoreOperation}
use Rattle.apex_types.specs.declared.request.Request.{Request}
use Rattle.apex_types.specs.declared.operation.ObjectOperation.TheVariants as on
use Rattle.apex_types.specs.declared.request.Request.TheVariants as request
use Rattle.apex_machine.specs.After.{is_valid}
use Rattle.apex_machine.specs.Answer.{Answer, Effect, NewNumber, done_with}
use Rattle.apex_machine.specs.Arguments.{discipline_given, natural_of}
use Rattle.apex_machine.specs.Channels.{QueuingPort, SamplingPort, queuing_port, sampling_port}
use Rattle.apex_machine.specs.Configuration.{Configuration}
use Rattle.apex_machine.specs.State.{Partition, Port, is_free, item_at}
use Rattle.apex_laws.specs.ObjectSentences.{IsAcquiring, IsClearing, IsDisplay, IsEventWait, IsMutexReset, IsReading, IsReceiving, IsReleasing, IsResetting, IsSemaphoreWait, IsSending, IsSetting, IsSignal}

-- afterwards the object of this number is this one, and the others are as before
pub record OneBecomes {Object : Type 0} (before after : List (ℕ × Object)) (number : ℕ) (new : Object) : Type 0 where
  pub here : item_at after number ≡ Some new
  pub others : (other : ℕ) → ¬ (other ≡ number) → item_at after other ≡ item_at before other

-- a service of an object: the object is created, the rule gives the answer, and the object keeps everything except what the rule changes
pub record Operates {Object Value : Type 0} (before after : List (ℕ × Object)) (given : ℤ) (Rule : Object → Effect Value → Type 0) (put : Object → Value → Object) (answer : Answer) : Type 0 where
  pub number : ℕ
  pub is : given ≡ pos number
  pub found : Object
  pub is_member : item_at before number ≡ Some found
  pub effect : Effect Value
  pub rule : Rule found effect
  pub gives : answer ≡ effect.answer
  pub becomes : OneBecomes before after number (put found effect.next)

-- a creation: the answer is a new number of the kind, and what is created gets the number claimed, if that was free
pub record Creates {Object : Type 0} (before after : List (ℕ × Object)) (claimed : Option ℤ) (new : Object) (answer : Answer) : Type 0 where
  pub gives : answer ≡ done_with (NewNumber (is_free before))
  pub put : (number : ℕ) → claimed ≡ Some (pos number) → item_at before number ≡ None → OneBecomes before after number new

-- the services of objects, by the objects of the partition before and after, if no error condition holds
abbrev pub IsObjectCall : Configuration → Who → Option ℤ → Request → Partition → Answer → Partition → Type 0
IsObjectCall configuration who claimed (request.Create name (NewObject.Buffer size capacity discipline)) partition answer next =
    (next ≡ record partition { buffers = next.buffers }) × Creates partition.buffers next.buffers claimed (record { name = name; size = natural_of size; capacity = natural_of capacity; discipline = discipline_given discipline; messages = []; senders = []; receivers = [] }) answer
IsObjectCall configuration who claimed (request.Object buffer (on.Buffer (BufferOperation.Send length time_out message))) partition answer next =
    (next ≡ record partition { buffers = next.buffers }) × Operates partition.buffers next.buffers buffer (λ found. IsSending found.capacity message time_out found.discipline found.receivers found.messages)
    (λ found messages. record found { messages = messages }) answer
IsObjectCall configuration who claimed (request.Object buffer (on.Buffer (BufferOperation.Receive time_out))) partition answer next =
    (next ≡ record partition { buffers = next.buffers }) × Operates partition.buffers next.buffers buffer (λ found. IsReceiving time_out found.discipline found.senders found.messages)
    (λ found messages. record found { messages = messages }) answer
IsObjectCall configuration who claimed (request.Create name (NewObject.Blackboard size)) partition answer next =
    (next ≡ record partition { blackboards = next.blackboards }) × Creates partition.blackboards next.blackboards claimed (record { name = name; size = natural_of size; message = None; readers = [] }) answer
IsObjectCall configuration who claimed (request.Object blackboard (on.Blackboard (BlackboardOperation.Display length message))) partition answer next =
    (next ≡ record partition { blackboards = next.blackboards }) × Operates partition.blackboards next.blackboards blackboard (λ found. IsDisplay message found.readers) (λ found message. record found { message = message }) answer
IsObjectCall configuration who claimed (request.Object blackboard (on.Blackboard (BlackboardOperation.Read time_out))) partition answer next =
    (next ≡ record partition { blackboards = next.blackboards }) × Operates partition.blackboards next.blackboards blackboard (λ found. IsReading time_out found.message) (λ found message. record found { message = message }) answer
IsObjectCall configuration who claimed (request.Object blackboard (on.Blackboard BlackboardOperation.Clear)) partition answer next =
    (next ≡ record partition { blackboards = next.blackboards }) × Operates partition.blackboards next.blackboards blackboard (λ found effect. IsClearing effect) (λ found message. record found { message = message }) answer
IsObjectCall configuration who claimed (request.Create name (NewObject.Semaphore value maximum discipline)) partition answer next =
    (next ≡ record partition { semaphores = next.semaphores }) × Creates partition.semaphores next.semaphores claimed (record { name = name; maximum = natural_of maximum; discipline = discipline_given discipline; value = natural_of value; waiters = [] }) answer
IsObjectCall configuration who claimed (request.Object semaphore (on.Semaphore (SemaphoreOperation.Wait time_out))) partition answer next =
    (next ≡ record partition { semaphores = next.semaphores }) × Operates partition.semaphores next.semaphores semaphore (λ found. IsSemaphoreWait time_out found.value) (λ found value. record found { value = value }) answer
IsObjectCall configuration who claimed (request.Object semaphore (on.Semaphore SemaphoreOperation.Signal)) partition answer next =
    (next ≡ record partition { semaphores = next.semaphores }) × Operates partition.semaphores next.semaphores semaphore (λ found. IsSignal found.maximum found.discipline found.waiters found.value)
    (λ found value. record found { value = value }) answer
IsObjectCall configuration who claimed (request.Create name NewObject.Event) partition answer next =
    (next ≡ record partition { events = next.events }) × Creates partition.events next.events claimed (record { name = name; up = false; waiters = [] }) answer
IsObjectCall configuration who claimed (request.Object event (on.Event EventOperation.Set)) partition answer next =
    (next ≡ record partition { events = next.events }) × Operates partition.events next.events event (λ found. IsSetting found.waiters) (λ found up. record found { up = up }) answer
IsObjectCall configuration who claimed (request.Object event (on.Event EventOperation.Reset)) partition answer next =
    (next ≡ record partition { events = next.events }) × Operates partition.events next.events event (λ found effect. IsResetting effect) (λ found up. record found { up = up }) answer
IsObjectCall configuration who claimed (request.Object event (on.Event (EventOperation.Wait time_out))) partition answer next =
    (next ≡ record partition { events = next.events }) × Operates partition.events next.events event (λ found. IsEventWait time_out found.up) (λ found up. record found { up = up }) answer
IsObjectCall configuration who claimed (request.Create name (NewObject.Mutex priority discipline)) partition answer next =
    (next ≡ record partition { mutexes = next.mutexes }) × Creates partition.mutexes next.mutexes claimed (record { name = name; priority = natural_of priority; discipline = discipline_given discipline; owner = None; count = 0; waiters = [] }) answer
IsObjectCall configuration who claimed (request.Object mutex (on.Mutex (MutexOperation.Acquire time_out))) partition answer next =
    (next ≡ record partition { mutexes = next.mutexes }) × Operates partition.mutexes next.mutexes mutex (λ found. IsAcquiring who.proc time_out found) (λ found changed. changed) answer
IsObjectCall configuration who claimed (request.Object mutex (on.Mutex MutexOperation.Release)) partition answer next =
    (next ≡ record partition { mutexes = next.mutexes }) × Operates partition.mutexes next.mutexes mutex (λ found effect. IsReleasing found effect) (λ found changed. changed) answer
IsObjectCall configuration who claimed (request.Object mutex (on.Mutex (MutexOperation.Reset process))) partition answer next =
    (next ≡ record partition { mutexes = next.mutexes }) × Operates partition.mutexes next.mutexes mutex (λ found effect. IsMutexReset found effect) (λ found changed. changed) answer
-- a created port is as it is configured
IsObjectCall configuration who claimed (request.Create name (NewObject.SamplingPort size direction refresh)) partition answer next =
    (next ≡ record partition { sampling_ports = next.sampling_ports })
    × ((port : SamplingPort) × (sampling_port configuration who.part name ≡ Some port)
    × Creates partition.sampling_ports next.sampling_ports claimed (record { name = name; size = port.size; direction = port.direction; channel = port.channel; valid = false }) answer)
IsObjectCall configuration who claimed (request.Create name (NewObject.QueuingPort size capacity way discipline)) partition answer next =
    (next ≡ record partition { queuing_ports = next.queuing_ports })
    × ((port : QueuingPort) × (queuing_port configuration who.part name ≡ Some port)
    × Creates partition.queuing_ports next.queuing_ports claimed (record { name = name; size = port.size; direction = port.direction; channel = port.channel; valid = false }) answer)
-- the port at which a sample is read records whether the sample is valid
IsObjectCall configuration who claimed (request.SamplingPort port SamplingOperation.Read) partition answer next =
    (next ≡ record partition { sampling_ports = next.sampling_ports })
    × ((number : ℕ) (found : Port) → port ≡ pos number → item_at partition.sampling_ports number ≡ Some found
    → OneBecomes partition.sampling_ports next.sampling_ports number (record found { valid = is_valid claimed }))
-- any other service leaves all objects and ports unchanged
IsObjectCall configuration who claimed _ partition answer next = next ≡ partition
