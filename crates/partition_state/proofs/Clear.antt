-- What is known of a call on which no error condition holds.
use Rattle.std.proofs.Common.{◌≡◌, ◌≢◌, ◌≤◌, ℕ, ℤ, pos, negsuc, List, [], ◌∷◌, ◌++◌, Option, Some, None, Bool, true, false, not, IsTrue, refl}
use Rattle.std.specs.Option.{IfSome, option_map}
use Rattle.apex_types.specs.declared.operation.{BlackboardOperation.BlackboardOperation, BufferOperation.BufferOperation, EventOperation.EventOperation, MutexOperation.MutexOperation, ProcessOperation.ProcessOperation, QueuingOperation.QueuingOperation, SamplingOperation.SamplingOperation, SemaphoreOperation.SemaphoreOperation}
use Rattle.apex_types.specs.declared.record.Call.{Call as CallRecord}
use Rattle.apex_types.specs.declared.record.Claim.{Claim}
use Rattle.apex_types.specs.declared.record.Who.{Who}
use Rattle.apex_types.specs.declared.request.Request.{Request}
use Rattle.apex_types.specs.declared.operation.ObjectOperation.TheVariants as on
use Rattle.apex_types.specs.declared.request.Request.TheVariants as request
use Rattle.apex_machine.specs.declared.condition.Condition.{Condition}
use Rattle.apex_machine.specs.declared.state.CoreState.{CoreState}
use Rattle.apex_machine.specs.Conditions.{conditions_for, time_out_conditions, waiting_conditions, when}
use Rattle.apex_machine.specs.Configuration.{Configuration}
use Rattle.apex_machine.specs.Demands.{AllHold, answer_demands, outcome_demands, own_call_demands}
use Rattle.apex_machine.specs.ObjectConditions.{message_conditions}
use Rattle.apex_machine.specs.Ports.{channel_by, channel_of}
use Rattle.apex_machine.specs.ServiceConditions.{conditions_of}
use Rattle.apex_machine.specs.Services.{Answer, answer_of}
use Rattle.apex_machine.specs.State.{Mutex, Partition, Port, created, given_object, item_at, time_of}
use Rattle.apex_laws.specs.PartLaws.{IsOwnCall}
use Rattle.apex_laws.proofs.SoundParts.{demands_none, running_is_in_no_set}
use Rattle.partition_state.specs.Calls.{IsAtWork, IsClear, ReadsAtPort, served_demands}

-- lists of conditions

pub nil_left : (conditions others : List Condition) → conditions ++ others ≡ [] → conditions ≡ []
nil_left [] others e = refl
nil_left (condition ∷ conditions) others e = cc

pub nil_right : (conditions others : List Condition) → conditions ++ others ≡ [] → others ≡ []
nil_right [] others e = e
nil_right (condition ∷ conditions) others e = cc

pub when_not : (passes : Bool) (one : Condition) → when (not passes) one ≡ [] → IsTrue passes
when_not true one e = refl
when_not false one e = cc

-- what is created is there

is_there : {Object : Type 0} (object : Option Object) (conditions : Object → List Condition) → conditions_for object conditions ≡ [] → object ≢ None
is_there None conditions e = λ same. cc
is_there (Some found) conditions e = λ same. cc

is_first : {Object : Type 0} (object : Option Object) (conditions : Object → List Condition) (others : List Condition) → conditions_for object conditions ++ others ≡ [] → object ≢ None
is_first None conditions others e = λ same. cc
is_first (Some found) conditions others e = λ same. cc

has_size : {Object : Type 0} (size : Object → ℕ) (object : Option Object) (length : ℤ) → message_conditions (option_map size object) length ≡ [] → object ≢ None
has_size size None length e = λ same. cc
has_size size (Some found) length e = λ same. cc

pub buffer_found : (configuration : Configuration) (now : ℕ) (who : Who) (partition : Partition) (buffer : ℤ) (operation : BufferOperation)
    → conditions_of configuration now who partition (request.Object buffer (on.Buffer operation)) ≡ [] → given_object partition.buffers buffer ≢ None
buffer_found configuration now who partition buffer (BufferOperation.Send length time_out message) none =
    has_size _ (given_object partition.buffers buffer) length (nil_left _ (time_out_conditions time_out) (nil_left _ (waiting_conditions who partition time_out) none))
buffer_found configuration now who partition buffer (BufferOperation.Receive time_out) none =
    is_first (given_object partition.buffers buffer) _ (time_out_conditions time_out) (nil_left _ (waiting_conditions who partition time_out) none)

pub blackboard_found : (configuration : Configuration) (now : ℕ) (who : Who) (partition : Partition) (blackboard : ℤ) (operation : BlackboardOperation)
    → conditions_of configuration now who partition (request.Object blackboard (on.Blackboard operation)) ≡ [] → given_object partition.blackboards blackboard ≢ None
blackboard_found configuration now who partition blackboard (BlackboardOperation.Display length message) none = has_size _ (given_object partition.blackboards blackboard) length none
blackboard_found configuration now who partition blackboard (BlackboardOperation.Read time_out) none =
    is_first (given_object partition.blackboards blackboard) _ (time_out_conditions time_out) (nil_left _ (waiting_conditions who partition time_out) none)
blackboard_found configuration now who partition blackboard BlackboardOperation.Clear none = is_there (given_object partition.blackboards blackboard) _ none

pub semaphore_found : (configuration : Configuration) (now : ℕ) (who : Who) (partition : Partition) (semaphore : ℤ) (operation : SemaphoreOperation)
    → conditions_of configuration now who partition (request.Object semaphore (on.Semaphore operation)) ≡ [] → given_object partition.semaphores semaphore ≢ None
semaphore_found configuration now who partition semaphore (SemaphoreOperation.Wait time_out) none =
    is_first (given_object partition.semaphores semaphore) _ (time_out_conditions time_out) (nil_left _ (waiting_conditions who partition time_out) none)
semaphore_found configuration now who partition semaphore SemaphoreOperation.Signal none = is_there (given_object partition.semaphores semaphore) _ none

pub event_found : (configuration : Configuration) (now : ℕ) (who : Who) (partition : Partition) (event : ℤ) (operation : EventOperation)
    → conditions_of configuration now who partition (request.Object event (on.Event operation)) ≡ [] → given_object partition.events event ≢ None
event_found configuration now who partition event (EventOperation.Wait time_out) none =
    is_first (given_object partition.events event) _ (time_out_conditions time_out) (nil_left _ (waiting_conditions who partition time_out) none)
event_found configuration now who partition event EventOperation.Set none = is_there (given_object partition.events event) _ none
event_found configuration now who partition event EventOperation.Reset none = is_there (given_object partition.events event) _ none

pub mutex_found : (configuration : Configuration) (now : ℕ) (who : Who) (partition : Partition) (mutex : ℤ) (operation : MutexOperation)
    → conditions_of configuration now who partition (request.Object mutex (on.Mutex operation)) ≡ [] → given_object partition.mutexes mutex ≢ None
mutex_found configuration now who partition mutex (MutexOperation.Acquire time_out) none =
    is_first (given_object partition.mutexes mutex) _ (time_out_conditions time_out) (nil_left _ _ (nil_left _ _ (nil_left _ _ none)))
mutex_found configuration now who partition mutex MutexOperation.Release none = is_there (given_object partition.mutexes mutex) _ none
mutex_found configuration now who partition mutex (MutexOperation.Reset process) none = is_first (given_object partition.mutexes mutex) _ _ (nil_left _ _ none)

-- a call through a port goes to a channel

goes_through : (port : Option Port) → port ≢ None → channel_by port ≢ None
goes_through None there = absurd (there refl)
goes_through (Some port) there = λ same. cc

pub sampling_goes_through : (configuration : Configuration) (now : ℕ) (who : Who) (partition : Partition) (port : ℤ) (operation : SamplingOperation)
    → conditions_of configuration now who partition (request.SamplingPort port operation) ≡ [] → channel_of partition (request.SamplingPort port operation) ≢ None
sampling_goes_through configuration now who partition port (SamplingOperation.Write length message) none =
    goes_through (given_object partition.sampling_ports port) (is_there (given_object partition.sampling_ports port) _ (nil_left _ _ none))
sampling_goes_through configuration now who partition port SamplingOperation.Read none =
    goes_through (given_object partition.sampling_ports port) (is_there (given_object partition.sampling_ports port) _ none)

pub queuing_goes_through : (configuration : Configuration) (now : ℕ) (who : Who) (partition : Partition) (port : ℤ) (operation : QueuingOperation)
    → conditions_of configuration now who partition (request.QueuingPort port operation) ≡ [] → channel_of partition (request.QueuingPort port operation) ≢ None
queuing_goes_through configuration now who partition port (QueuingOperation.Send length time_out message) none =
    goes_through (given_object partition.queuing_ports port) (is_there (given_object partition.queuing_ports port) _ (nil_left _ _ (nil_left _ (time_out_conditions time_out) (nil_left _ (waiting_conditions who partition time_out) none))))
queuing_goes_through configuration now who partition port (QueuingOperation.Receive time_out) none =
    goes_through (given_object partition.queuing_ports port) (is_first (given_object partition.queuing_ports port) _ (time_out_conditions time_out) (nil_left _ (waiting_conditions who partition time_out) none))
queuing_goes_through configuration now who partition port QueuingOperation.Clear none =
    goes_through (given_object partition.queuing_ports port) (is_there (given_object partition.queuing_ports port) _ none)

pub target_found : (configuration : Configuration) (now : ℕ) (who : Who) (partition : Partition) (process : ℤ)
    → conditions_of configuration now who partition (request.Process process ProcessOperation.Stop) ≡ [] → created partition.table process ≢ None
target_found configuration now who partition process none = is_first (created partition.table process) _ _ none

-- a read that is done is at a port that is created
pub port_found : (configuration : Configuration) (number place core : ℕ) (cores : List CoreState) (partition : Partition) (call : CallRecord)
    → IsOwnCall configuration number place core cores partition call → ReadsAtPort call call.request partition
port_found configuration number place core cores partition call own = by call.request refl
  where
    by : (asked : Request) → call.request ≡ asked → ReadsAtPort call asked partition
    by (request.SamplingPort port SamplingOperation.Read) is = λ done.
        let none = demands_none (conditions_of configuration (time_of cores core) call.who partition call.request) (channel_of partition call.request) number call.request
        (answer_of configuration cores core call.who partition call.request) call.claim
        own.demands.1.1.1.1.1.1 done in
        is_there (given_object partition.sampling_ports port) _ (rw is at none)
    by _ is = tt

-- the caller

-- a process that runs has an entry in no waiting set
pub at_work : (configuration : Configuration) (cores : List CoreState) (place core : ℕ) (partition : Partition) (call : CallRecord)
    → IsClear configuration cores place core partition call → IsAtWork place partition call.who
at_work configuration cores place core partition call clear = record {
  sound = clear.sound;
  nowhere = λ wanted. ((running_is_in_no_set call.who.part place core cores partition call.who clear.sound clear.caller.1.1.0).0 wanted).0;
}

-- what is demanded of an outcome on which no condition holds, through no channel
outcome_holds : (conditions : List Condition) (channel : Option ℕ) (number : ℕ) (asked : Request) (answer : Answer) (claim : Claim) → conditions ≡ [] → channel ≡ None
    → claim.chan ≡ None → AllHold (answer_demands answer claim) → AllHold (outcome_demands conditions channel number asked answer claim)
outcome_holds conditions channel number asked answer claim none nowhere apart holds = rw (none, nowhere) (apart, holds)

-- if its claim is what its service gives, all that is demanded of the call holds
pub all_hold : (configuration : Configuration) (cores : List CoreState) (place core : ℕ) (partition : Partition) (call : CallRecord)
    → IsClear configuration cores place core partition call → AllHold (served_demands configuration cores core partition call)
    → AllHold (own_call_demands configuration call.who.part cores partition core call)
all_hold configuration cores place core partition call clear served =
    let caller = clear.caller in
    let outcome = outcome_holds (conditions_of configuration (time_of cores core) call.who partition call.request) (channel_of partition call.request) call.who.part call.request
    (answer_of configuration cores core call.who partition call.request) call.claim clear.conditions clear.through clear.apart served in
    (caller.0, (caller.1.0, (caller.1.1.0, (caller.1.1.1.0, (caller.1.1.1.1.0, (caller.1.1.1.1.1.0, outcome))))))

-- so it is a lawful call of one of the partition's own processes
pub own_call : (configuration : Configuration) (cores : List CoreState) (place core : ℕ) (partition : Partition) (call : CallRecord)
    → IsClear configuration cores place core partition call → AllHold (served_demands configuration cores core partition call)
    → IsOwnCall configuration call.who.part place core cores partition call
own_call configuration cores place core partition call clear served = record {
  sound = clear.sound;
  own = refl;
  demands = all_hold configuration cores place core partition call clear served;
}

-- no mutex was acquired more often than there were records
pub counts_fit : (configuration : Configuration) (cores : List CoreState) (place core : ℕ) (partition : Partition) (call : CallRecord) (mutex : ℤ)
    → IsClear configuration cores place core partition call → IfSome (given_object partition.mutexes mutex) (λ found. found.count ≤ place)
counts_fit configuration cores place core partition call (negsuc n) clear = tt
counts_fit configuration cores place core partition call (pos n) clear = by (item_at partition.mutexes n) refl
  where
    by : (o : Option Mutex) → item_at partition.mutexes n ≡ o → IfSome o (λ found. found.count ≤ place)
    by None e = tt
    by (Some found) e = clear.bounded.counts n found e
