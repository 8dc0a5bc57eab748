-- What becomes of the owner of a mutex by a call.
use Rattle.std.proofs.Common.{◌≡◌, ◌≢◌, ℕ, ℤ, List, Option, Some, None, Result, Ok, Err, IfOk, refl}
use Rattle.std.specs.Option.{IfSome}
use Rattle.apex_types.specs.declared.operation.{MutexOperation.MutexOperation}
use Rattle.apex_types.specs.declared.record.Call.{Call as CallRecord}
use Rattle.apex_types.specs.declared.operation.ObjectOperation.TheVariants as on
use Rattle.apex_types.specs.declared.request.Request.TheVariants as request
use Rattle.apex_machine.specs.declared.state.CoreState.{CoreState}
use Rattle.apex_machine.specs.Configuration.{Configuration}
use Rattle.apex_machine.specs.State.{Mutex, Partition, given_object, time_of}
use Rattle.partition_objects.specs.Mutexes as mutexes
use Rattle.scheduling.specs.declared.transfer.Transfer.{Transfer}
use Rattle.scheduling.specs.Transfers.{IsTransferOf}
use Rattle.wait_set.specs.declared.object.Actor.{Actor}
use Rattle.wait_set.specs.declared.object.ObjFault.{ObjFault}
use Rattle.partition_state.specs.Calls.{IsClear, actor_of}
use Rattle.partition_state.specs.Owners.{TransfersBetween}
use Rattle.partition_state.proofs.Clear.{mutex_found}

-- a transfer between the owners that an operation on a mutex says is what the operation makes of its owners
mutex_transfers : (actor : Actor) (partition : Partition) (mutex : ℤ) (operation : MutexOperation) (transfer : Transfer)
    → given_object partition.mutexes mutex ≢ None
    → IfSome (given_object partition.mutexes mutex) (λ found. TransfersBetween (mutexes.owners actor operation found) transfer)
    → IsTransferOf partition actor.who.proc (request.Object mutex (on.Mutex operation)) transfer
mutex_transfers actor partition mutex operation transfer = by (given_object partition.mutexes mutex) refl
  where
    by : (given : Option Mutex) → given_object partition.mutexes mutex ≡ given → given ≢ None
        → IfSome given (λ found. TransfersBetween (mutexes.owners actor operation found) transfer)
        → IsTransferOf partition actor.who.proc (request.Object mutex (on.Mutex operation)) transfer
    by None is there transfers = absurd (there refl)
    by (Some found) is there transfers = λ number process. rw is (transfers number process)

-- so it is with a call on which no error condition holds
pub mutex_accepted : (configuration : Configuration) (cores : List CoreState) (place core : ℕ) (partition : Partition) (call : CallRecord) (mutex : ℤ)
    (operation : MutexOperation) → IsClear configuration cores place core partition call → call.request ≡ request.Object mutex (on.Mutex operation)
    → (result : Result Transfer ObjFault)
    → IfOk result (λ transfer. IfSome (given_object partition.mutexes mutex) (λ found. TransfersBetween (mutexes.owners (actor_of place call) operation found) transfer))
    → IfOk result (λ transfer. IsTransferOf partition call.who.proc (request.Object mutex (on.Mutex operation)) transfer)
mutex_accepted configuration cores place core partition call mutex operation clear asked (Err fault) transfers = tt
mutex_accepted configuration cores place core partition call mutex operation clear asked (Ok transfer) transfers =
    mutex_transfers (actor_of place call) partition mutex operation transfer (mutex_found configuration (time_of cores core) call.who partition mutex operation (rw asked at clear.conditions)) transfers
