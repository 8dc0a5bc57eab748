-- Calls that use a channel, and calls that leave all objects.
use Rattle.std.proofs.Common.{◌≡◌, ◌<◌, ℕ, ℤ, List, Bool, true, false, cond, IsFalse, IsTrue, Option, is_some, refl, sym, ap, ◌∙◌, inl, inr}
use Rattle.apex_types.specs.declared.limits.TheConstants.{PLACE_COUNT}
use Rattle.apex_types.specs.declared.object_kind.ObjectKind.TheVariants as kind
use Rattle.apex_types.specs.declared.operation.{CallerOperation.CallerOperation, QueuingOperation.QueuingOperation, SamplingOperation.SamplingOperation}
use Rattle.apex_types.specs.declared.record.Call.{Call as CallRecord}
use Rattle.apex_types.specs.declared.request.Request.{Request}
use Rattle.apex_types.specs.declared.request.Request.TheVariants as request
use Rattle.apex_machine.specs.declared.state.CoreState.{CoreState}
use Rattle.apex_machine.specs.declared.state.ErrorHandler.{ErrorHandler}
use Rattle.apex_machine.specs.After.{is_done, lock_called, objects_called}
use Rattle.apex_machine.specs.Arguments.{natural_of}
use Rattle.apex_machine.specs.Configuration.{Configuration}
use Rattle.apex_machine.specs.Errors.{errors_by, handler_by, handles_more}
use Rattle.apex_machine.specs.Locks.{is_of_lock}
use Rattle.apex_machine.specs.Ports.{use_of}
use Rattle.apex_machine.specs.State.{Partition, change_at}
use Rattle.apex_machine.specs.Waiting.{is_restart, restarts_by}
use Rattle.apex_laws.specs.PartBounds.{IsBoundedPart}
use Rattle.apex_laws.specs.PartLaws.{IsOwnCall, stops_one}
use Rattle.apex_laws.specs.PartObjects.{objects_changed}
use Rattle.apex_laws.proofs.EnteringSets.{refused_leaves_objects}
use Rattle.apex_laws.proofs.LockStays.{other_calls_leave_lock, refused_leaves_lock}
use Rattle.apex_laws.proofs.PartObjects.{one_object_changes}
use Rattle.apex_laws.proofs.Restarts.{not_done_goes_on}
use Rattle.scheduling.specs.declared.transfer.Transfer.{Transfer}
use Rattle.scheduling.specs.declared.fault.FaultChange.TheVariants as change
use Rattle.scheduling.specs.Faults.{IsFaultChangeOf}
use Rattle.scheduling.specs.Sound.{AsksSoundly, IsSound, WaitsSoundly}
use Rattle.scheduling.specs.Transfers.{IsTransferOf}
use Rattle.partition_state.specs.Calls.{LeavesObjects, objects_noted}
use Rattle.partition_objects.specs.Ports.{read_at}
use Rattle.partition_state.proofs.Served.{all_but_processes}
use Rattle.partition_state.proofs.Sets.{either_way}
use Rattle.partition_state.proofs.Sounds.{not_done_and_done, releases_soundly, sound_refused}

-- what holds of each use of a channel
by_use : (Fact : Request → Type 0) → ((port : ℤ) (operation : SamplingOperation) → Fact (request.SamplingPort port operation))
    → ((port : ℤ) (operation : QueuingOperation) → Fact (request.QueuingPort port operation)) → ((port : ℤ) → Fact (request.GetStatus kind.QueuingPort port))
    → (asked : Request) → IsTrue (is_some (use_of asked)) → Fact asked
by_use Fact samples queues asks (request.SamplingPort port operation) uses = samples port operation
by_use Fact samples queues asks (request.QueuingPort port operation) uses = queues port operation
by_use Fact samples queues asks (request.GetStatus kind.QueuingPort port) uses = asks port
by_use Fact samples queues asks _ uses = let never : ◌≡◌ {A = Bool} false true = uses in cc

-- the objects stay

-- a call that is not done notes nothing
nothing_noted : (call : CallRecord) (asked : Request) (partition : Partition) → IsFalse (is_done call.claim.out) → objects_noted call asked partition ≡ partition
nothing_noted call (request.SamplingPort port SamplingOperation.Read) partition not_done =
    ap (λ done. record partition { sampling_ports = cond done (change_at (natural_of port) (read_at call.claim.val) partition.sampling_ports) partition.sampling_ports }) not_done
nothing_noted call _ partition not_done = refl

-- a call that is not done, or that uses a channel, leaves all objects, and of ports all but what a read says of the last sample
leaves_objects : (configuration : Configuration) (number place core : ℕ) (cores : List CoreState) (partition : Partition) (call : CallRecord)
    → IsOwnCall configuration number place core cores partition call → LeavesObjects call → objects_called configuration place call partition ≡ objects_noted call call.request partition
leaves_objects configuration number place core cores partition call own (inl not_done) =
    refused_leaves_objects configuration number place core cores partition call own not_done ∙ sym (nothing_noted call call.request partition not_done)
leaves_objects configuration number place core cores partition call own (inr uses) =
    let changes = one_object_changes configuration number place core cores partition call own in
    by_use (λ asked. call.request ≡ asked → objects_called configuration place call partition ≡ objects_noted call asked partition)
    (λ port operation is. changes (rw is refl) (request.SamplingPort port operation) is ∙ sampled port operation)
    (λ port operation is. changes (rw is refl) (request.QueuingPort port operation) is)
    (λ port is. changes (rw is refl) (request.GetStatus kind.QueuingPort port) is) call.request uses refl
  where
    sampled : (port : ℤ) (operation : SamplingOperation)
        → objects_changed configuration place call (request.SamplingPort port operation) partition ≡ objects_noted call (request.SamplingPort port operation) partition
    sampled port (SamplingOperation.Write length message) = refl
    sampled port SamplingOperation.Read = refl

-- and it changes no error handler and no listed errors

handler_left : (configuration : Configuration) (call : CallRecord) → LeavesObjects call → (before : Option ErrorHandler)
    → cond (is_done call.claim.out) (handler_by configuration call.who.part call.request before) before ≡ before
handler_left configuration call (inl not_done) before = rw not_done refl
handler_left configuration call (inr uses) before =
    by_use (λ asked. cond (is_done call.claim.out) (handler_by configuration call.who.part asked before) before ≡ before)
    (λ port operation. stays) (λ port operation. stays) (λ port. stays) call.request uses
  where
    stays : cond (is_done call.claim.out) before before ≡ before
    stays = either_way (is_done call.claim.out) before before refl

errors_left : (call : CallRecord) → LeavesObjects call → (partition : Partition)
    → cond (is_done call.claim.out) (errors_by call.who.proc call.request partition) partition.errors ≡ partition.errors
errors_left call (inl not_done) partition = rw not_done refl
errors_left call (inr uses) partition =
    by_use (λ asked. cond (is_done call.claim.out) (errors_by call.who.proc asked partition) partition.errors ≡ partition.errors)
    (λ port operation. stays) (λ port operation. stays) (λ port. stays) call.request uses
  where
    stays : cond (is_done call.claim.out) partition.errors partition.errors ≡ partition.errors
    stays = either_way (is_done call.claim.out) partition.errors partition.errors refl

noted_handler : (call : CallRecord) (asked : Request) (partition : Partition) → (objects_noted call asked partition).handler ≡ partition.handler
noted_handler call (request.SamplingPort port SamplingOperation.Read) partition = refl
noted_handler call _ partition = refl

noted_errors : (call : CallRecord) (asked : Request) (partition : Partition) → (objects_noted call asked partition).errors ≡ partition.errors
noted_errors call (request.SamplingPort port SamplingOperation.Read) partition = refl
noted_errors call _ partition = refl

-- and the lock stays

noted_lock : (call : CallRecord) (asked : Request) (partition : Partition) → (objects_noted call asked partition).lock ≡ partition.lock
noted_lock call (request.SamplingPort port SamplingOperation.Read) partition = refl
noted_lock call _ partition = refl

lock_stays : (configuration : Configuration) (number place core : ℕ) (cores : List CoreState) (partition : Partition) (call : CallRecord)
    → IsOwnCall configuration number place core cores partition call → LeavesObjects call → lock_called place call partition.lock ≡ partition.lock
lock_stays configuration number place core cores partition call own (inl not_done) =
    refused_leaves_lock configuration number place core cores partition call own not_done
lock_stays configuration number place core cores partition call own (inr uses) =
    other_calls_leave_lock configuration number place core cores partition call own
    (by_use (λ asked. is_of_lock asked ≡ false) (λ port operation. refl) (λ port operation. refl) (λ port. refl) call.request uses)
    (by_use (λ asked. stops_one asked ≡ false) (λ port operation. refl) (λ port operation. refl) (λ port. refl) call.request uses)
    (by_use (λ asked. restarts_by asked call.claim.out ≡ false) (λ port operation. refl) (λ port operation. refl) (λ port. refl) call.request uses)

-- so of the partition all but its mode and its processes is as noted
pub leaves_all : (configuration : Configuration) (number place core : ℕ) (cores : List CoreState) (partition : Partition) (call : CallRecord)
    → IsOwnCall configuration number place core cores partition call → LeavesObjects call
    → all_but_processes configuration place call partition ≡ objects_noted call call.request partition
leaves_all configuration number place core cores partition call own leaves =
    let objects = leaves_objects configuration number place core cores partition call own leaves in
    let handler = handler_left configuration call leaves partition.handler ∙ sym (noted_handler call call.request partition) in
    let errors = errors_left call leaves partition ∙ sym (noted_errors call call.request partition) in
    let lock = lock_stays configuration number place core cores partition call own leaves ∙ sym (noted_lock call call.request partition) in
    λ i. record (objects i) { handler = handler i; errors = errors i; lock = lock i }

-- it restarts no partition
pub noted_goes_on : (call : CallRecord) → LeavesObjects call → is_restart call ≡ false
noted_goes_on call (inl not_done) = not_done_goes_on call not_done
noted_goes_on call (inr uses) =
    by_use (λ asked. restarts_by asked call.claim.out ≡ false) (λ port operation. refl) (λ port operation. refl) (λ port. refl)
    call.request uses

-- it asks nothing that a table could not hold
pub sound_noted : (place : ℕ) (partition : Partition) (call : CallRecord) → IsBoundedPart place partition → LeavesObjects call
    → place < PLACE_COUNT → IsSound partition.table call
sound_noted place partition call bounded (inl not_done) below = sound_refused place partition call bounded not_done below
sound_noted place partition call bounded (inr uses) below = record {
  asks = by_use (λ asked. AsksSoundly partition.table call asked) (λ port operation. tt) (λ port operation. tt) (λ port. tt) call.request uses;
  waits = λ waiting. by_use WaitsSoundly (λ port operation. tt) (λ port operation. tt) (λ port. tt) call.request uses;
  releases = releases_soundly place partition call.who.proc call.request bounded below;
}

-- it gives no mutex to another
pub noted_transfer : (partition : Partition) (call : CallRecord) (transfer : Transfer) → LeavesObjects call → IsTrue (is_done call.claim.out)
    → IsTransferOf partition call.who.proc call.request transfer
noted_transfer partition call transfer (inl not_done) done = absurd (not_done_and_done (is_done call.claim.out) not_done done)
noted_transfer partition call transfer (inr uses) done =
    by_use (λ asked. IsTransferOf partition call.who.proc asked transfer) (λ port operation. tt) (λ port operation. tt) (λ port. tt) call.request uses

-- and it makes nobody faulted
pub noted_faults : (partition : Partition) (call : CallRecord) → LeavesObjects call → IsTrue (is_done call.claim.out)
    → IsFaultChangeOf partition call.who.proc call.request change.Unchanged
noted_faults partition call (inl not_done) done = absurd (not_done_and_done (is_done call.claim.out) not_done done)
noted_faults partition call (inr uses) done =
    by_use (λ asked. IsFaultChangeOf partition call.who.proc asked change.Unchanged)
    (λ port operation place number process. refl) (λ port operation place number process. refl) (λ port place number process. refl) call.request uses

-- the handler's STOP_SELF is always done
pub noted_no_more : (configuration : Configuration) (number place core : ℕ) (cores : List CoreState) (partition : Partition) (call : CallRecord)
    → IsOwnCall configuration number place core cores partition call → LeavesObjects call → handles_more partition call.who.proc call.request ≡ false
noted_no_more configuration number place core cores partition call own (inr uses) =
    by_use (λ asked. handles_more partition call.who.proc asked ≡ false) (λ port operation. refl) (λ port operation. refl) (λ port. refl) call.request uses
noted_no_more configuration number place core cores partition call own (inl not_done) = by call.request refl
  where
    by : (asked : Request) → call.request ≡ asked → handles_more partition call.who.proc asked ≡ false
    by (request.Caller CallerOperation.StopSelf) is =
        let held = rw is at own.demands.1.1.1.1.1.1 in
        let done : is_done call.claim.out ≡ true = rw held.1.0 refl in
        absurd (not_done_and_done (is_done call.claim.out) not_done done)
    by _ is = refl
