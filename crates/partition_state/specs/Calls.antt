-- The calls that a partition may serve, what it answers, and which object a request uses.
use Rattle.std.specs.Prelude.{◌≡◌, ◌≢◌, ◌⊎◌, ℕ, ℤ, Bool, true, false, List, [], None, IsErrAnd, IsFalse, IsOk, IsTrue, MatchResult, Result, is_some, if◌then◌else◌}
use Rattle.apex_types.specs.declared.cause.Cause.{Cause}
use Rattle.apex_types.specs.declared.operation.{CallerOperation.CallerOperation, HealthOperation.HealthOperation, ProcessOperation.ProcessOperation, SamplingOperation.SamplingOperation}
use Rattle.apex_types.specs.declared.record.Call.{Call as CallRecord}
use Rattle.apex_types.specs.declared.record.Claim.{Claim}
use Rattle.apex_types.specs.declared.record.Who.{Who}
use Rattle.apex_types.specs.declared.request.Request.{Request}
use Rattle.apex_types.specs.declared.request.Request.TheVariants as request
use Rattle.apex_machine.specs.declared.state.CoreState.{CoreState}
use Rattle.apex_machine.specs.declared.state.WaitingSet.{WaitingSet}
use Rattle.apex_machine.specs.After.{is_done}
use Rattle.apex_machine.specs.Answer.{Answer}
use Rattle.apex_machine.specs.Arguments.{natural_of}
use Rattle.apex_machine.specs.Configuration.{Configuration}
use Rattle.apex_machine.specs.Demands.{AllHold, Demand, FirstFails, answer_demands, caller_demands, has_entry_in}
use Rattle.apex_machine.specs.Errors.{errors_by, handler_by}
use Rattle.apex_machine.specs.Ports.{channel_of, use_of}
use Rattle.apex_machine.specs.ServiceConditions.{conditions_of}
use Rattle.apex_machine.specs.Services.{NewNumber, answer_by, answer_of, done_with, peer}
use Rattle.apex_machine.specs.State.{Partition, change_at, created, given_object, is_free, objects_of, time_of}
use Rattle.apex_laws.specs.Laws.{entries_at}
use Rattle.apex_laws.specs.PartLaws.{IsSoundPart}
use Rattle.apex_laws.specs.PartBounds.{IsBoundedPart}
use Rattle.apex_laws.specs.PartObjects.{objects_changed}
use Rattle.apex_laws.specs.PartSets.{left_if_there}
use Rattle.partition_objects.specs.Locks.{after as lock_after, after_stop}
use Rattle.partition_objects.specs.Numbers.{NumbersFit}
use Rattle.partition_objects.specs.Ports.{read_at}
use Rattle.scheduling.specs.declared.transfer.Transfer.{Transfer}
use Rattle.scheduling.specs.Sound.{is_core_number}
use Rattle.wait_set.specs.declared.object.Actor.{Actor}
use Rattle.wait_set.specs.declared.object.ObjFault.{ObjFault}
use Rattle.wait_set.specs.declared.object.ObjFault.TheVariants.{Unlawful, Memory}
use Rattle.apex_machine.specs.Objects.{object_effect}
use Rattle.apex_types.specs.Shapes.{kind_used}
use Rattle.apex_types.specs.declared.operation.ObjectOperation.{ObjectOperation}

-- the numbers of all objects fit 32 bits
pub record NumbersAreKept (partition : Partition) : Type 0 where
  pub buffers : NumbersFit partition.buffers
  pub blackboards : NumbersFit partition.blackboards
  pub semaphores : NumbersFit partition.semaphores
  pub events : NumbersFit partition.events
  pub mutexes : NumbersFit partition.mutexes

-- a process of a sound partition that has no entry in any of its waiting sets, as the process that makes a call
pub record IsAtWork (place : ℕ) (partition : Partition) (who : Who) : Type 0 where
  pub sound : IsSoundPart who.part place partition
  pub nowhere : (wanted : WaitingSet) → IsFalse (has_entry_in who (entries_at partition wanted))

-- a call of a process of a sound and bounded partition that is ready to be served: all demands on it before its outcome hold, no error
-- condition does, it goes through no channel, and it claims none
pub record IsClear (configuration : Configuration) (cores : List CoreState) (place core : ℕ) (partition : Partition) (call : CallRecord) : Type 0 where
  pub sound : IsSoundPart call.who.part place partition
  pub bounded : IsBoundedPart place partition
  pub caller : AllHold (caller_demands configuration call.who.part cores partition core call)
  pub conditions : conditions_of configuration (time_of cores core) call.who partition call.request ≡ []
  pub through : channel_of partition call.request ≡ None
  pub apart : call.claim.chan ≡ None

-- a call that is ready to be served, in some configuration, on some core at some times of the cores
abbrev pub IsReady : ℕ → Partition → CallRecord → Type 0
IsReady place partition call = (configuration : Configuration) × (cores : List CoreState) × (core : ℕ) × IsClear configuration cores place core partition call

-- what is demanded of the claim of a call on which no error condition holds and that goes through no channel: it is what the service gives
-- its caller, by the cores and the caller's core
abbrev pub served_demands : Configuration → List CoreState → ℕ → Partition → CallRecord → List {1} Demand
served_demands configuration cores core partition call = answer_demands (answer_of configuration cores core call.who partition call.request) call.claim

-- a CONFIGURE_ERROR_HANDLER gives the number of a core
abbrev pub NamesCore : HealthOperation → Type 0
NamesCore (HealthOperation.ConfigureHandler concurrency core) = IsTrue (is_core_number core)
NamesCore _ = Unit {0}

-- whether a request creates a process, an object or a port
abbrev pub creates : Request → Bool
creates (request.CreateProcess name priority period time_capacity) = true
creates (request.Create name object) = true
creates _ = false

-- the process that makes a call, as an object sees it: with the priority that the call claims
abbrev pub actor_of : ℕ → CallRecord → Actor
actor_of place call = record { who = call.who; priority = call.claim.prio; place = place }

-- what is demanded of the claim of an operation on an object: it is what the object gives
abbrev pub used_demands : {Object : Type 0} → List (ℕ × Object) → ℤ → (Object → Answer) → Claim → List {1} Demand
used_demands objects given gives claim = answer_demands (answer_by (given_object objects given) gives) claim

-- what is demanded of the claim of an operation of this process on the object of its kind and this number: it is what the rule gives
abbrev pub object_demands : Partition → ℕ → ℤ → ObjectOperation → Claim → List {1} Demand
object_demands partition caller given operation claim =
    used_demands (objects_of partition (kind_used operation)) given (λ found. (object_effect caller operation found).answer) claim

-- what is demanded of the claim of a creation: it is a new number
abbrev pub created_demands : {Object : Type 0} → List (ℕ × Object) → Claim → List {1} Demand
created_demands objects claim = answer_demands (done_with (NewNumber (is_free objects))) claim

-- a refusal over demands gives the cause of the first that fails; if memory is lacking, nothing is said of them
abbrev pub RefusesOrWants : List {1} Demand → ObjFault → Type 0
RefusesOrWants demands (Unlawful cause) = FirstFails demands cause
RefusesOrWants demands Memory = Unit {0}

-- what a judgement makes of a call that changes no object: the call is accepted, or refused for the cause that was judged
abbrev pub IsJudged : Result (Unit {0}) Cause → Result Transfer ObjFault → Type 0
IsJudged judged result = MatchResult judged (λ _. IsOk result) (λ cause. IsErrAnd result (λ fault. fault ≡ Unlawful cause))

-- a call that leaves all objects of its partition unchanged: it is not done, or it uses a channel
abbrev pub LeavesObjects : CallRecord → Type 0
LeavesObjects call = IsFalse (is_done call.claim.out) ⊎ IsTrue (is_some (use_of call.request))

-- a read that is done is through a created port
abbrev pub ReadsAtPort : CallRecord → Request → Partition → Type 0
ReadsAtPort call (request.SamplingPort port SamplingOperation.Read) partition = IsTrue (is_done call.claim.out) → given_object partition.sampling_ports port ≢ None
ReadsAtPort call _ partition = Unit {0}

-- the ports of a partition after a call that leaves its objects unchanged: a port records whether its last read gave a valid sample
abbrev pub objects_noted : CallRecord → Request → Partition → Partition
objects_noted call (request.SamplingPort port SamplingOperation.Read) partition = record partition {
  sampling_ports = if is_done call.claim.out then change_at (natural_of port) (read_at call.claim.val) partition.sampling_ports else partition.sampling_ports;
}
objects_noted call _ partition = partition

-- a partition after a stop of this process that ends the waits of these, except for its processes and the set in which the process waits: if
-- it owns the lock, it gives the lock up
abbrev pub with_lock_stopped : ℕ → List Who → Partition → Partition
with_lock_stopped number woken partition = record partition { lock = after_stop number woken partition.lock }

-- the objects and the lock of a partition after a call that was served: STOP takes its target out of its waiting set, and a stop of the
-- lock's owner gives the lock up; an operation on the lock changes the lock; and any other service changes the one object that it names
abbrev pub objects_served : Configuration → ℕ → CallRecord → Request → Partition → Partition
objects_served configuration place call (request.Process process ProcessOperation.Stop) partition =
    left_if_there (peer call.who process) (created partition.table process) (with_lock_stopped (natural_of process) call.claim.woken partition)
objects_served configuration place call (request.Caller CallerOperation.StopSelf) partition =
    with_lock_stopped call.who.proc call.claim.woken partition
objects_served configuration place call (request.Preemption operation) partition =
    record partition { lock = lock_after (actor_of place call) operation call.claim partition.lock }
objects_served configuration place call asked partition = objects_changed configuration place call asked partition

-- a partition after a call that was served, except for its mode and its processes: its objects and its lock change, and so do its error
-- handler and its listed errors
abbrev pub served : Configuration → ℕ → CallRecord → Request → Partition → Partition
served configuration place call asked partition =
    record (objects_served configuration place call asked partition) {
      handler = handler_by configuration call.who.part asked partition.handler;
      errors = errors_by call.who.proc asked partition;
    }
