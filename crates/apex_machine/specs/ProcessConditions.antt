-- The error conditions of the services on processes, on the caller's waits and on the partition's mode.
use Rattle.std.specs.Prelude.{ℕ, ◌-◌, List, [], ◌∷◌, ◌++◌, length, Option, Some, None, Bool, false, ℤ, not, is_none, is_some, nat_eq, nat_le, ◌&&◌, ◌||◌}
use Rattle.std.specs.Option.{option_map_or}
use Rattle.apex_types.specs.declared.limits.TheConstants.{GREATEST_LOCK_LEVEL}
use Rattle.apex_types.specs.declared.error.ErrorCode.TheVariants as error
use Rattle.apex_types.specs.declared.record.Who.{Who}
use Rattle.apex_types.specs.Numbers.{error_number}
use Rattle.apex_machine.specs.declared.condition.Condition.{Condition}
use Rattle.apex_machine.specs.declared.condition.Condition.TheVariants as condition
use Rattle.apex_machine.specs.declared.state.Mode.{Mode}
use Rattle.apex_machine.specs.declared.state.Process.{Process}
use Rattle.apex_machine.specs.Arguments.{is_above_period, is_at_least, is_mode, is_negative, is_normal_mode, is_number, is_period, is_priority, is_report_length, is_time_capacity, is_warm_start_mode, natural_of, suits_period}
use Rattle.apex_machine.specs.Conditions.{conditions_for, conditions_if, creation_conditions, is_cold_start, is_normal, is_taken, may_not_wait, of_caller, owns_mutex, time_out_conditions, when}
use Rattle.apex_machine.specs.Configuration.{Configuration, is_core, period_of, process_limit}
use Rattle.apex_machine.specs.Deadlines.{ends_after}
use Rattle.apex_machine.specs.DueTimes.{is_suspension, next_release}
use Rattle.apex_machine.specs.Locks.{owns_lock}
use Rattle.apex_machine.specs.Errors.{is_some_listed}
use Rattle.apex_machine.specs.State.{Partition, Table, created, is_handler, item_at}

-- how many processes are created: all but the initialising one
abbrev pub created_count : Table → ℕ
created_count table = length table - 1

-- whether a process is periodic
abbrev pub is_periodic : Process → Bool
is_periodic process = is_some process.period

-- a process is suspended if another process suspended it, or if it suspended itself
abbrev pub is_suspended : Process → Bool
is_suspended process = process.suspended || is_suspension process.wait

-- process management

-- CREATE_PROCESS: the conditions of every creation; a priority, a period and a time capacity in range, a period that suits the partition's,
-- and a time capacity that is not above the period
abbrev pub create_process_conditions : Configuration → ℕ → Partition → List ℕ → ℤ → ℤ → ℤ → List Condition
create_process_conditions configuration number partition name priority period time_capacity =
    creation_conditions partition (is_taken (λ (process : Process). process.name) name partition.table)
    (nat_le (process_limit configuration number) (created_count partition.table))
    ++ when (not (is_priority priority)) condition.PriorityOutOfRange
    ++ when (not (is_period period)) condition.PeriodOutOfRange
    ++ when (not (suits_period (period_of configuration number) period)) condition.PeriodNotMultiple
    ++ when (not (is_time_capacity time_capacity)) condition.TimeCapacityOutOfRange
    ++ when (is_above_period period time_capacity) condition.TimeCapacityAbovePeriod

-- INITIALIZE_PROCESS_CORE_AFFINITY: a created process; a mode other than NORMAL; one of the partition's cores
abbrev pub affinity_conditions : Configuration → ℕ → Partition → ℤ → ℤ → List Condition
affinity_conditions configuration number partition process core =
    when (is_none (created partition.table process)) condition.NotCreated
    ++ when (is_normal partition.mode) condition.InNormal
    ++ when (not (is_core configuration number core)) condition.CoreNotOfPartition

-- START: a created process that is dormant
abbrev pub start_conditions : Option Process → List Condition
start_conditions None = condition.NotCreated ∷ []
start_conditions (Some process) = when process.alive condition.AlreadyStarted

-- whether a process is periodic and this delay is not below its period
abbrev pub reaches_period : ℤ → Process → Bool
reaches_period delay process = option_map_or (λ period. is_at_least period delay) process.period false

-- DELAYED_START: a created process that is dormant; a delay that is not below 0, and below the period of a periodic process
abbrev pub delayed_start_conditions : Option Process → ℤ → List Condition
delayed_start_conditions target delay =
    start_conditions target
    ++ when (is_negative delay) condition.DelayOutOfRange
    ++ conditions_if target (λ found. when (reaches_period delay found) condition.DelayNotBelowPeriod)

-- STOP: a created process, other than the caller, that is not dormant
abbrev pub stop_conditions : Who → Option Process → ℤ → List Condition
stop_conditions who target process =
    conditions_for target (λ found. when (not found.alive) condition.AlreadyDormant) ++ when (is_number process who.proc) condition.NamesItself

-- SUSPEND and RESUME: a process that is neither dormant nor periodic
abbrev pub suspension_conditions : Process → List Condition
suspension_conditions process = when (not process.alive) condition.Dormant ++ when (is_periodic process) condition.Periodic

-- SUSPEND: a created process, other than the caller, that is neither dormant nor periodic, not yet suspended, and not the owner of the lock
abbrev pub suspend_conditions : Who → Partition → ℤ → List Condition
suspend_conditions who partition process =
    conditions_for (created partition.table process)
    (λ found. suspension_conditions found ++ when (is_suspended found) condition.AlreadySuspended ++ when (owns_lock partition (natural_of process)) condition.ProcessOwnsLock)
    ++ when (is_number process who.proc) condition.NamesItself

-- RESUME: a created process, other than the caller, that is neither dormant nor periodic and is suspended
abbrev pub resume_conditions : Who → Option Process → ℤ → List Condition
resume_conditions who target process =
    conditions_for target (λ found. suspension_conditions found ++ when (found.alive && not (is_suspended found)) condition.NotSuspended)
    ++ when (is_number process who.proc) condition.NamesItself

-- SET_PRIORITY: a created process that is not dormant; a priority in range
abbrev pub set_priority_conditions : Option Process → ℤ → List Condition
set_priority_conditions target priority =
    conditions_for target (λ found. when (not found.alive) condition.Dormant) ++ when (not (is_priority priority)) condition.PriorityOutOfRange

-- GET_PROCESS_STATUS and GET_PROCESS_MUTEX_STATE: a created process
abbrev pub named_conditions : Option Process → List Condition
named_conditions target = conditions_for target (λ found. [])

-- GET_MY_ID: a caller other than the initialising process
abbrev pub get_my_id_conditions : Who → List Condition
get_my_id_conditions who = when (nat_eq who.proc 0) condition.InitialisingCaller

-- waits of the caller

-- SUSPEND_SELF: a time-out in range; an aperiodic process that may wait
abbrev pub suspend_self_conditions : Who → Partition → ℤ → List Condition
suspend_self_conditions who partition time_out =
    time_out_conditions time_out
    ++ when (of_caller is_periodic (item_at partition.table who.proc)) condition.PeriodicCaller
    ++ when (may_not_wait who partition) condition.MayNotWait

-- TIMED_WAIT: a delay not below 0; a process that may wait
abbrev pub timed_wait_conditions : Who → Partition → ℤ → List Condition
timed_wait_conditions who partition delay = when (is_negative delay) condition.DelayOutOfRange ++ when (may_not_wait who partition) condition.MayNotWait

-- PERIODIC_WAIT: a periodic process that may wait
abbrev pub periodic_wait_conditions : Who → Partition → List Condition
periodic_wait_conditions who partition =
    when (not (of_caller is_periodic (item_at partition.table who.proc))) condition.AperiodicCaller
    ++ when (may_not_wait who partition) condition.MayNotWait

-- reports and errors

-- REPORT_APPLICATION_MESSAGE: a length in range
abbrev pub report_conditions : ℤ → List Condition
report_conditions length = when (not (is_report_length length)) condition.LengthOutOfRange

-- CREATE_ERROR_HANDLER: a mode other than NORMAL, and no handler yet
abbrev pub create_handler_conditions : Partition → List Condition
create_handler_conditions partition = when (is_normal partition.mode) condition.InNormal ++ when (is_some partition.handler) condition.HandlerCreated

-- CONFIGURE_ERROR_HANDLER: a mode other than NORMAL, and a created handler; a concurrency of 0 or 1, and one of the partition's cores
abbrev pub configure_handler_conditions : Configuration → ℕ → Partition → ℤ → ℤ → List Condition
configure_handler_conditions configuration number partition concurrency core =
    when (is_normal partition.mode) condition.InNormal
    ++ when (is_none partition.handler) condition.NoHandler
    ++ when (not (is_number concurrency 0 || is_number concurrency 1)) condition.ConcurrencyOutOfRange
    ++ when (not (is_core configuration number core)) condition.HandlerCoreNotOfPartition

-- RAISE_APPLICATION_ERROR: the number of APPLICATION_ERROR, and a length in range
abbrev pub raise_conditions : ℤ → ℤ → List Condition
raise_conditions given length =
    when (not (is_number given (error_number error.ApplicationError))) condition.ErrorNotOfApplication ++ report_conditions length

-- GET_ERROR_STATUS: the error handler, and an error that it has still to take
abbrev pub error_status_conditions : Who → Partition → List Condition
error_status_conditions who partition =
    when (not (is_handler partition who.proc)) condition.NotHandler ++ when (not (is_some_listed partition.errors)) condition.NoErrorListed

-- the lock

-- LOCK_PREEMPTION, UNLOCK_PREEMPTION and REPLENISH: the mode NORMAL, and a caller other than the initialising process
abbrev pub preemption_conditions : Who → Partition → List Condition
preemption_conditions who partition =
    when (not (is_normal partition.mode)) condition.NotNormal ++ when (nat_eq who.proc 0) condition.NotForInitialising

-- LOCK_PREEMPTION: a caller that does not own the lock at its greatest level, and owns no mutex
abbrev pub lock_conditions : Who → Partition → List Condition
lock_conditions who partition =
    preemption_conditions who partition
    ++ when (owns_lock partition who.proc && nat_le GREATEST_LOCK_LEVEL partition.lock.level) condition.LevelIsGreatest
    ++ when (owns_mutex partition.mutexes who.proc) condition.OwnsMutex

-- UNLOCK_PREEMPTION: a caller that owns the lock
abbrev pub unlock_conditions : Who → Partition → List Condition
unlock_conditions who partition = preemption_conditions who partition ++ when (not (owns_lock partition who.proc)) condition.NotLockOwner

-- deadlines

-- whether a process is periodic, and a budget that counts from this time ends after its next release
abbrev pub replenishes_beyond : ℕ → ℤ → Process → Bool
replenishes_beyond now budget process = is_periodic process && ends_after now budget (next_release process)

-- REPLENISH: the mode NORMAL, and a caller other than the initialising process; a budget in range, which for a periodic process does not end
-- after its next release
abbrev pub replenish_conditions : ℕ → Who → Partition → ℤ → List Condition
replenish_conditions now who partition budget =
    preemption_conditions who partition
    ++ when (not (is_time_capacity budget)) condition.BudgetOutOfRange
    ++ when (of_caller (replenishes_beyond now budget) (item_at partition.table who.proc)) condition.BudgetAboveRelease

-- the partition's mode

-- SET_PARTITION_MODE: a mode in range; not NORMAL in NORMAL, and not WARM_START in COLD_START
abbrev pub set_mode_conditions : Mode → ℤ → List Condition
set_mode_conditions current mode =
    when (not (is_mode mode)) condition.ModeOutOfRange
    ++ when (is_normal_mode mode && is_normal current) condition.AlreadyNormal
    ++ when (is_warm_start_mode mode && is_cold_start current) condition.WarmStartInColdStart
