-- What a mutex's change of owner makes of priorities.
use Rattle.std.specs.Prelude.{◌≡◌, ℕ, if◌then◌else◌}
use Rattle.apex_types.specs.declared.operation.ObjectOperation.{ObjectOperation}
use Rattle.apex_types.specs.declared.request.Request.{Request}
use Rattle.apex_types.specs.declared.operation.ObjectOperation.TheVariants as on
use Rattle.apex_types.specs.declared.request.Request.TheVariants as request
use Rattle.apex_machine.specs.declared.state.Process.{Process}
use Rattle.apex_machine.specs.Objects.{is_owner, mutex_effect}
use Rattle.apex_machine.specs.Processes.{by_mutex, granted, restored}
use Rattle.apex_machine.specs.State.{Partition, given_object}
use Rattle.scheduling.specs.declared.transfer.Transfer.{Transfer}
use Rattle.scheduling.specs.Changes.{with_each}
use Rattle.scheduling.specs.Processes.{Processes}

-- a process that stops being the mutex's owner, if it was the owner
abbrev pub freed : Transfer → ℕ → Process → Process
freed transfer number process = if is_owner transfer.from number then restored process else process

-- a process after a mutex's change of owner: a process that stops being the owner has its own priority again, and the process that becomes
-- the owner has the mutex's
abbrev pub transferred : Transfer → ℕ → Process → Process
transferred transfer number process =
    if is_owner transfer.to number then granted transfer.priority (freed transfer number process) else freed transfer number process

-- the processes after an operation on an object: an operation on a mutex changes those of its owners
abbrev pub passed_on : Transfer → ObjectOperation → Processes → Processes
passed_on transfer (on.Mutex operation) processes = with_each (transferred transfer) processes
passed_on transfer _ processes = processes

-- a transfer is what an operation of this caller on a mutex makes of its owners; other services change no owner
abbrev pub IsTransferOf : Partition → ℕ → Request → Transfer → Type 0
IsTransferOf partition caller (request.Object mutex (on.Mutex operation)) transfer = (number : ℕ) (process : Process)
    → by_mutex (given_object partition.mutexes mutex) (λ found. (mutex_effect caller operation found).next) number process ≡ transferred transfer number process
IsTransferOf partition caller _ transfer = Unit {0}
