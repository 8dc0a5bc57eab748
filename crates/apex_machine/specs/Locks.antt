-- The lock on preemption of a partition: what each operation gives its caller, how it leaves the lock, and what a stop of its owner makes of
-- it.
use Rattle.std.specs.Prelude.{ℕ, ◌+◌, ◌-◌, List, [], ◌∷◌, ◌++◌, Option, Some, None, Bool, true, false, pos, nat_eq, nat_lt, ◌&&◌, option_map, if◌then◌else◌}
use Rattle.std.specs.Option.{option_to_list}
use Rattle.apex_types.specs.declared.code.Code.TheVariants as code
use Rattle.apex_types.specs.declared.discipline.Discipline.TheVariants.{Priority}
use Rattle.apex_types.specs.declared.operation.{CallerOperation.CallerOperation, LockOperation.LockOperation, ProcessOperation.ProcessOperation}
use Rattle.apex_types.specs.declared.record.Body.{Body}
use Rattle.apex_types.specs.declared.record.Body.TheVariants.{Call, Tick}
use Rattle.apex_types.specs.declared.record.Call.{Call as CallRecord}
use Rattle.apex_types.specs.declared.record.Out.TheVariants as out
use Rattle.apex_types.specs.declared.record.Who.{Who}
use Rattle.apex_types.specs.declared.request.Request.{Request}
use Rattle.apex_types.specs.declared.request.Request.TheVariants as request
use Rattle.apex_machine.specs.declared.state.Entry.{Entry}
use Rattle.apex_machine.specs.Answer.{Answer, Effect, Number, waiting}
use Rattle.apex_machine.specs.Arguments.{natural_of}
use Rattle.apex_machine.specs.Objects.{is_owner}
use Rattle.apex_machine.specs.State.{Lock, Partition, is_named}
use Rattle.apex_machine.specs.Waiting.{ends_wait, entry_of, first_waiter, is_waiting, without}

-- owners

-- whether a process owns the lock of its partition
abbrev pub owns_lock : Partition → ℕ → Bool
owns_lock partition number = is_owner partition.lock.owner number

-- the lock, once this process owns it: its level is 1
abbrev pub locked_by : ℕ → Lock → Lock
locked_by number lock = record lock { owner = Some number; level = 1 }

-- the first process that waits for the lock, if one does
abbrev pub first_for_lock : Lock → Option Entry
first_for_lock lock = first_waiter Priority lock.waiters

-- the lock given up by its owner, given the first waiter, if any: that one becomes the owner; with no waiter the lock becomes free
abbrev pub passed_to : Option Entry → Lock → Lock
passed_to None lock = record lock { owner = None; level = 0 }
passed_to (Some waiter) lock = locked_by waiter.who.proc lock

-- the lock after its owner has given it up
abbrev pub passed_on : Lock → Lock
passed_on lock = passed_to (first_for_lock lock) lock

-- the process whose wait ends when the owner gives the lock up, if one waits
abbrev pub next_owner : Lock → List Who
next_owner lock = option_to_list (option_map (λ entry. entry.who) (first_for_lock lock))

-- operations

-- the service is done at once: the caller's level is this one, and the waits of these processes end
abbrev pub at_level : ℕ → List Who → Answer
at_level level woken = record { out = out.Answer code.NoError; val = Number (pos level); val2 = None; val3 = None; bytes = []; woken = woken }

-- the owner locks once more
abbrev pub locked_again : Lock → Effect Lock
locked_again lock = record { answer = at_level (lock.level + 1) []; next = record lock { level = lock.level + 1 } }

-- another process owns the lock
abbrev pub not_locked : Lock → Effect Lock
not_locked lock = record { answer = waiting; next = lock }

-- locking, by who owns the lock
abbrev pub locked_from : Option ℕ → ℕ → Lock → Effect Lock
locked_from None caller lock = record { answer = at_level 1 []; next = locked_by caller lock }
locked_from (Some owner) caller lock = if nat_eq owner caller then locked_again lock else not_locked lock

-- LOCK_PREEMPTION: a free lock becomes the caller's, with level 1; its owner adds one to the level; if another process owns it, the caller
-- waits
abbrev pub locked : ℕ → Lock → Effect Lock
locked caller lock = locked_from lock.owner caller lock

-- an UNLOCK_PREEMPTION that is not the last: the owner keeps the lock
abbrev pub unlocked_once : Lock → Effect Lock
unlocked_once lock = record { answer = at_level (lock.level - 1) []; next = record lock { level = lock.level - 1 } }

-- the last UNLOCK_PREEMPTION: the owner gives the lock up, and its level is 0
abbrev pub given_up : Lock → Effect Lock
given_up lock = record { answer = at_level 0 (next_owner lock); next = passed_on lock }

-- UNLOCK_PREEMPTION takes one from the level, and at 0 the owner gives the lock up
abbrev pub unlocked : Lock → Effect Lock
unlocked lock = if nat_lt 1 lock.level then unlocked_once lock else given_up lock

-- an operation of this process on the lock, its waiting set aside
abbrev pub lock_effect : ℕ → LockOperation → Lock → Effect Lock
lock_effect caller LockOperation.Lock lock = locked caller lock
lock_effect caller LockOperation.Unlock lock = unlocked lock

-- stops

-- the processes whose waits end when this process is stopped: if it owns the lock, the one that gets it
abbrev pub freed_by_stop : ℕ → Lock → List Who
freed_by_stop number lock = if is_owner lock.owner number then next_owner lock else []

-- the lock after a stop of this process, its waiting set aside: an owner gives it up, whatever its level is   (STOP, STOP_SELF, section 3)
abbrev pub lock_stopped : ℕ → Lock → Lock
lock_stopped number lock = if is_owner lock.owner number then passed_on lock else lock

-- records

-- the lock after a call of this process that is done, its waiting set aside
abbrev pub lock_by : ℕ → Request → Lock → Lock
lock_by caller (request.Preemption operation) lock = (lock_effect caller operation lock).next
lock_by caller (request.Process process ProcessOperation.Stop) lock = lock_stopped (natural_of process) lock
lock_by caller (request.Caller CallerOperation.StopSelf) lock = lock_stopped caller lock
lock_by caller _ lock = lock

-- whether a request is of the lock
abbrev pub is_of_lock : Request → Bool
is_of_lock (request.Preemption operation) = true
is_of_lock _ = false

-- whether a call enters the waiting set of the lock
abbrev pub enters_lock : CallRecord → Bool
enters_lock call = is_waiting call.claim.out && is_of_lock call.request

-- the processes that wait for the lock after a record of its partition: a process whose wait ends leaves, and a caller that waits for the
-- lock enters
abbrev pub lock_waiters_after : ℕ → Body → List Entry → List Entry
lock_waiters_after place (Tick woken) entries = without (λ who. is_named who woken) entries
lock_waiters_after place (Call call) entries =
    if enters_lock call
    then without (ends_wait call) entries ++ entry_of place call ∷ []
    else without (ends_wait call) entries
lock_waiters_after place _ entries = entries

-- the lock with the waiting set that a record leaves
abbrev pub lock_left : ℕ → Body → Lock → Lock
lock_left place body lock = record lock { waiters = lock_waiters_after place body lock.waiters }
