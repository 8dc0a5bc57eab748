-- What an operation on the lock of a partition requires, and the lock after it.
use Rattle.std.specs.Prelude.{ℕ, List, [], ◌<◌, IsTrue}
use Rattle.apex_types.specs.declared.limits.TheConstants.{GREATEST_LOCK_LEVEL}
use Rattle.apex_types.specs.declared.operation.{LockOperation.LockOperation}
use Rattle.apex_types.specs.declared.record.Claim.{Claim}
use Rattle.apex_types.specs.declared.record.Who.{Who}
use Rattle.apex_machine.specs.declared.state.Entry.{Entry}
use Rattle.apex_machine.specs.Locks.{lock_effect, lock_stopped}
use Rattle.apex_machine.specs.Objects.{is_owner}
use Rattle.apex_machine.specs.State.{Lock}
use Rattle.wait_set.specs.declared.object.Actor.{Actor}
use Rattle.wait_set.specs.Actors.{joined_by, left_by}
use Rattle.wait_set.specs.Sets.{without_named}

-- LOCK_PREEMPTION by the owner requires that the level is not the greatest, so that it can rise by one
abbrev pub Needs : Actor → LockOperation → Lock → Type 0
Needs actor LockOperation.Lock lock = IsTrue (is_owner lock.owner actor.who.proc) → lock.level < GREATEST_LOCK_LEVEL
Needs actor LockOperation.Unlock lock = Unit {0}

-- the processes that wait after an operation: LOCK_PREEMPTION adds a caller that waits
abbrev pub waiters_after : Actor → LockOperation → Claim → List Entry → List Entry
waiters_after actor LockOperation.Lock claim entries = joined_by actor claim [] entries
waiters_after actor LockOperation.Unlock claim entries = left_by claim entries

-- the lock after an operation
abbrev pub after : Actor → LockOperation → Claim → Lock → Lock
after actor operation claim lock = record (lock_effect actor.who.proc operation lock).next { waiters = waiters_after actor operation claim lock.waiters }

-- the lock after a stop of this process that ends the waits of these
abbrev pub after_stop : ℕ → List Who → Lock → Lock
after_stop number woken lock = record (lock_stopped number lock) { waiters = without_named woken lock.waiters }
