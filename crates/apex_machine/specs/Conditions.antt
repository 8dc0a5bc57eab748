-- The error conditions that several services share. Each condition is judged by itself: it is among a call's conditions if it holds.
use Rattle.std.specs.Prelude.{ℕ, List, [], ◌∷◌, ◌++◌, Option, Some, None, Bool, true, false, ℤ, not, nat_eq, ◌&&◌, ◌||◌, if◌then◌else◌}
use Rattle.std.specs.Str.{bytes_eq}
use Rattle.apex_types.specs.declared.code.Code.{Code}
use Rattle.apex_types.specs.declared.code.Code.TheVariants as code
use Rattle.apex_types.specs.declared.record.Who.{Who}
use Rattle.apex_machine.specs.declared.condition.Condition.{Condition}
use Rattle.apex_machine.specs.declared.condition.Condition.TheVariants as condition
use Rattle.apex_machine.specs.declared.state.Mode.{Mode}
use Rattle.apex_machine.specs.declared.state.Mode.TheVariants as mode
use Rattle.apex_machine.specs.declared.state.Process.{Process}
use Rattle.apex_machine.specs.Arguments.{is_over, is_time_out}
use Rattle.apex_machine.specs.Locks.{owns_lock}
use Rattle.apex_machine.specs.Objects.{is_owner}
pub use Rattle.apex_machine.specs.State.{is_normal}
use Rattle.apex_machine.specs.State.{Mutex, Partition}

-- the return code of a condition   (section 3)
abbrev pub code_of : Condition → Code
code_of condition.NotCreated = code.InvalidParam
code_of condition.TimeOutOutOfRange = code.InvalidParam
code_of condition.MayNotWait = code.InvalidMode
code_of condition.InNormal = code.InvalidMode
code_of condition.NameTaken = code.NoAction
code_of condition.AllCreated = code.InvalidConfig
code_of condition.PriorityOutOfRange = code.InvalidParam
code_of condition.PeriodOutOfRange = code.InvalidParam
code_of condition.PeriodNotMultiple = code.InvalidConfig
code_of condition.CoreNotOfPartition = code.InvalidConfig
code_of condition.AlreadyStarted = code.NoAction
code_of condition.NamesItself = code.InvalidParam
code_of condition.AlreadyDormant = code.NoAction
code_of condition.Dormant = code.InvalidMode
code_of condition.Periodic = code.InvalidMode
code_of condition.AlreadySuspended = code.NoAction
code_of condition.NotSuspended = code.NoAction
code_of condition.InitialisingCaller = code.InvalidMode
code_of condition.PeriodicCaller = code.InvalidMode
code_of condition.AperiodicCaller = code.InvalidMode
code_of condition.DelayOutOfRange = code.InvalidParam
code_of condition.ModeOutOfRange = code.InvalidParam
code_of condition.AlreadyNormal = code.NoAction
code_of condition.WarmStartInColdStart = code.InvalidMode
code_of condition.SizeOutOfRange = code.InvalidParam
code_of condition.CapacityOutOfRange = code.InvalidParam
code_of condition.DisciplineOutOfRange = code.InvalidParam
code_of condition.MaximumOutOfRange = code.InvalidParam
code_of condition.ValueOutOfRange = code.InvalidParam
code_of condition.NotAsConfigured = code.InvalidConfig
code_of condition.EmptyMessage = code.InvalidParam
code_of condition.LongerThanObject = code.InvalidParam
code_of condition.OwnsAnother = code.InvalidMode
code_of condition.AboveCeiling = code.InvalidMode
code_of condition.NotOwner = code.InvalidMode
code_of condition.LongerThanPort = code.InvalidConfig
code_of condition.NotSource = code.InvalidMode
code_of condition.NotDestination = code.InvalidMode
code_of condition.NoSuchName = code.InvalidConfig
code_of condition.TimeCapacityOutOfRange = code.InvalidParam
code_of condition.TimeCapacityAbovePeriod = code.InvalidParam
code_of condition.DelayNotBelowPeriod = code.InvalidParam
code_of condition.NoSuchProcess = code.InvalidParam
code_of condition.ProcessNotOwner = code.InvalidMode
code_of condition.LengthOutOfRange = code.InvalidParam
code_of condition.HandlerCreated = code.NoAction
code_of condition.NotNormal = code.NoAction
code_of condition.NotForInitialising = code.NoAction
code_of condition.LevelIsGreatest = code.InvalidConfig
code_of condition.OwnsMutex = code.InvalidMode
code_of condition.NotLockOwner = code.NoAction
code_of condition.OwnsLock = code.InvalidMode
code_of condition.ProcessOwnsLock = code.InvalidMode
code_of condition.BudgetOutOfRange = code.InvalidParam
code_of condition.BudgetAboveRelease = code.InvalidMode
code_of condition.ErrorNotOfApplication = code.InvalidParam
code_of condition.NotHandler = code.InvalidConfig
code_of condition.NoErrorListed = code.NoAction
code_of condition.NoHandler = code.InvalidConfig
code_of condition.ConcurrencyOutOfRange = code.InvalidParam
code_of condition.HandlerCoreNotOfPartition = code.InvalidParam

-- this condition, if it holds
abbrev pub when : Bool → Condition → List Condition
when holds condition = if holds then condition ∷ [] else []

-- the conditions on what is created; or the one that it is not created
abbrev pub conditions_for : {Object : Type 0} → Option Object → (Object → List Condition) → List Condition
conditions_for None conditions = condition.NotCreated ∷ []
conditions_for (Some object) conditions = conditions object

-- the conditions on what is created, if it is
abbrev pub conditions_if : {Object : Type 0} → Option Object → (Object → List Condition) → List Condition
conditions_if None conditions = []
conditions_if (Some object) conditions = conditions object

-- whether a mode is COLD_START
abbrev pub is_cold_start : Mode → Bool
is_cold_start mode.ColdStart = true
is_cold_start _ = false

-- the caller

-- whether the caller passes this test
abbrev pub of_caller : (Process → Bool) → Option Process → Bool
of_caller test None = false
of_caller test (Some process) = test process

-- whether a process owns a mutex
abbrev pub owns_mutex : List (ℕ × Mutex) → ℕ → Bool
owns_mutex [] number = false
owns_mutex (entry ∷ entries) number = is_owner entry.1.owner number || owns_mutex entries number

-- the initialising process may not wait, and neither may the owner of a mutex or of the lock
abbrev pub may_not_wait : Who → Partition → Bool
may_not_wait who partition = nat_eq who.proc 0 || (owns_mutex partition.mutexes who.proc || owns_lock partition who.proc)

-- waits

-- a time-out is not below -1
abbrev pub time_out_conditions : ℤ → List Condition
time_out_conditions time_out = when (not (is_time_out time_out)) condition.TimeOutOutOfRange

-- a caller that may not wait must give a time-out of 0
abbrev pub waiting_conditions : Who → Partition → ℤ → List Condition
waiting_conditions who partition time_out = when (not (is_over time_out) && may_not_wait who partition) condition.MayNotWait

-- creations

-- whether a process or object of this name is created
abbrev pub is_taken : {Item : Type 0} → (Item → List ℕ) → List ℕ → List (ℕ × Item) → Bool
is_taken name_of name [] = false
is_taken name_of name (entry ∷ entries) = bytes_eq name (name_of entry.1) || is_taken name_of name entries

-- a creation is made before NORMAL; its name is not yet taken in its kind; and no more of the kind are created than are configured
abbrev pub creation_conditions : Partition → Bool → Bool → List Condition
creation_conditions partition is_taken is_full =
    when (is_normal partition.mode) condition.InNormal ++ when is_taken condition.NameTaken ++ when is_full condition.AllCreated
