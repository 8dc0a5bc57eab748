-- The error conditions of uses of buffers, blackboards, semaphores, events and mutexes.
use Rattle.std.specs.Prelude.{ℕ, List, [], ◌∷◌, ◌++◌, length, Option, Bool, false, ℤ, not, is_none, is_some, nat_eq, nat_lt, ◌&&◌, ◌||◌}
use Rattle.apex_types.specs.declared.record.Who.{Who}
use Rattle.apex_machine.specs.declared.condition.Condition.{Condition}
use Rattle.apex_machine.specs.declared.condition.Condition.TheVariants as condition
use Rattle.apex_machine.specs.Arguments.{is_length, is_longer, is_number, natural_of}
use Rattle.apex_machine.specs.Conditions.{conditions_for, conditions_if, of_caller, time_out_conditions, waiting_conditions, when}
use Rattle.apex_machine.specs.Locks.{owns_lock}
use Rattle.apex_machine.specs.Objects.{is_owner}
use Rattle.apex_machine.specs.State.{Mutex, Partition, created, given_object, item_at}

-- a use that may wait for an object: the object is created, the time-out is in range, and the caller may wait unless the time-out is 0
abbrev pub object_conditions : {Object : Type 0} → Who → Partition → Option Object → ℤ → List Condition
object_conditions who partition object time_out = conditions_for object (λ found. []) ++ time_out_conditions time_out ++ waiting_conditions who partition time_out

-- a message into an object: the object is created, and the message is not empty and not longer than the object's size
abbrev pub message_conditions : Option ℕ → ℤ → List Condition
message_conditions size length =
    conditions_for size (λ greatest. when (is_longer greatest length) condition.LongerThanObject)
    ++ when (not (is_length length)) condition.EmptyMessage

-- mutexes

-- whether a process owns a mutex other than the one of this number
abbrev pub owns_another : List (ℕ × Mutex) → ℤ → ℕ → Bool
owns_another [] mutex number = false
owns_another (entry ∷ entries) mutex number = (is_owner entry.1.owner number && not (is_number mutex entry.0)) || owns_another entries mutex number

-- ACQUIRE_MUTEX: a created mutex whose priority is not below the caller's current one; a time-out in range; a caller that is neither the
-- initialising process nor the owner of another mutex or of the lock
abbrev pub acquire_conditions : Who → Partition → ℤ → ℤ → List Condition
acquire_conditions who partition mutex time_out =
    conditions_for (given_object partition.mutexes mutex)
    (λ found. when (of_caller (λ process. nat_lt found.priority process.current_priority) (item_at partition.table who.proc)) condition.AboveCeiling)
    ++ time_out_conditions time_out
    ++ when (nat_eq who.proc 0) condition.InitialisingCaller
    ++ when (owns_another partition.mutexes mutex who.proc) condition.OwnsAnother
    ++ when (owns_lock partition who.proc) condition.OwnsLock

-- RESET_MUTEX: a created mutex, and a created process, which owns it
abbrev pub reset_conditions : Partition → ℤ → ℤ → List Condition
reset_conditions partition mutex process =
    conditions_for (given_object partition.mutexes mutex) (λ found. [])
    ++ when (is_none (created partition.table process)) condition.NoSuchProcess
    ++ conditions_if (given_object partition.mutexes mutex)
    (λ found. when (is_some (created partition.table process) && not (is_owner found.owner (natural_of process))) condition.ProcessNotOwner)

-- RELEASE_MUTEX: a created mutex, which the caller owns
abbrev pub release_conditions : Who → Option Mutex → List Condition
release_conditions who mutex = conditions_for mutex (λ found. when (not (is_owner found.owner who.proc)) condition.NotOwner)
