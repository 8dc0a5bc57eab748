-- What an operation on a mutex requires, and the mutex and its owner after it.
use Rattle.std.specs.Prelude.{◌≤◌, List, []}
use Rattle.apex_types.specs.declared.operation.{MutexOperation.MutexOperation}
use Rattle.apex_types.specs.declared.record.Claim.{Claim}
use Rattle.apex_machine.specs.declared.state.Entry.{Entry}
use Rattle.apex_machine.specs.Objects.{mutex_effect}
use Rattle.apex_machine.specs.State.{Mutex}
use Rattle.wait_set.specs.declared.object.Actor.{Actor}
use Rattle.wait_set.specs.declared.object.Owners.{Owners}
use Rattle.wait_set.specs.Actors.{joined_by, left_by}

-- ACQUIRE_MUTEX requires that the count is not above the place of the call, so that the count can rise by one
abbrev pub Needs : Actor → MutexOperation → Mutex → Type 0
Needs actor (MutexOperation.Acquire time_out) found = found.count ≤ actor.place
Needs actor MutexOperation.Release found = Unit {0}
Needs actor (MutexOperation.Reset process) found = Unit {0}

-- the processes that wait after an operation: ACQUIRE_MUTEX adds a caller that waits
abbrev pub waiters_after : Actor → MutexOperation → Claim → List Entry → List Entry
waiters_after actor (MutexOperation.Acquire time_out) claim entries = joined_by actor claim [] entries
waiters_after actor MutexOperation.Release claim entries = left_by claim entries
waiters_after actor (MutexOperation.Reset process) claim entries = left_by claim entries

-- the mutex after an operation
abbrev pub after : Actor → MutexOperation → Claim → Mutex → Mutex
after actor operation claim found = record (mutex_effect actor.who.proc operation found).next { waiters = waiters_after actor operation claim found.waiters }

-- the owner of a mutex, and the owner of the mutex that it becomes; an owner runs with its priority
abbrev pub owners_from : Mutex → Mutex → Owners
owners_from found next = record { before = found.owner; after = next.owner; priority = found.priority }

-- the owner of the mutex before an operation, and the owner after it
abbrev pub owners : Actor → MutexOperation → Mutex → Owners
owners actor operation found = owners_from found (mutex_effect actor.who.proc operation found).next
