-- The semaphore after each operation.
use Rattle.std.specs.Prelude.{List, []}
use Rattle.apex_types.specs.declared.operation.{SemaphoreOperation.SemaphoreOperation}
use Rattle.apex_types.specs.declared.record.Claim.{Claim}
use Rattle.apex_machine.specs.declared.state.Entry.{Entry}
use Rattle.apex_machine.specs.Objects.{semaphore_effect}
use Rattle.apex_machine.specs.State.{Semaphore}
use Rattle.wait_set.specs.declared.object.Actor.{Actor}
use Rattle.wait_set.specs.Actors.{joined_by, left_by}

-- the processes that wait after an operation: WAIT_SEMAPHORE adds a caller that waits
abbrev pub waiters_after : Actor → SemaphoreOperation → Claim → List Entry → List Entry
waiters_after actor (SemaphoreOperation.Wait time_out) claim entries = joined_by actor claim [] entries
waiters_after actor SemaphoreOperation.Signal claim entries = left_by claim entries

-- the semaphore after an operation
abbrev pub after : Actor → SemaphoreOperation → Claim → Semaphore → Semaphore
after actor operation claim found = record (semaphore_effect operation found).next { waiters = waiters_after actor operation claim found.waiters }
