-- Which process a core is to run.
use Rattle.std.specs.Prelude.{◌≡◌, ◌⊎◌, ◌<◌, ℕ, [], ◌∷◌, Option, Some, None, Bool, true, false, not, nat_eq, nat_lt, ◌&&◌, ◌||◌, if◌then◌else◌, filter, option_map, IsTrue, IsFalse, Contains}
use Rattle.apex_types.specs.declared.record.Who.{Who}
use Rattle.apex_machine.specs.declared.state.Process.{Process}
use Rattle.apex_machine.specs.declared.state.Wait.{Wait}
use Rattle.apex_machine.specs.declared.state.Wait.TheVariants as wait
use Rattle.apex_machine.specs.Configuration.{Configuration, window_at}
use Rattle.apex_machine.specs.declared.state.ErrorHandler.{ErrorHandler}
use Rattle.apex_machine.specs.declared.state.Mode.TheVariants.{Normal}
use Rattle.apex_machine.specs.State.{Partition, State, Table, is_normal, item_at, time_of}

-- whether a wait is for nothing
abbrev pub waits_for_nothing : Wait → Bool
waits_for_nothing wait.Nothing = true
waits_for_nothing _ = false

-- the test whether a process is ready on a core
abbrev pub is_ready : ℕ → Process → Bool
is_ready core process =
    process.alive && (not process.faulted && (not process.suspended && (waits_for_nothing process.wait && nat_eq process.affinity core)))

-- the test whether one ready process goes before another
abbrev pub goes_before : ℕ × Process → ℕ × Process → Bool
goes_before a b =
    nat_lt b.1.current_priority a.1.current_priority
    || (nat_eq a.1.current_priority b.1.current_priority
    && (nat_lt a.1.ready_position b.1.ready_position || (nat_eq a.1.ready_position b.1.ready_position && nat_lt a.0 b.0)))

-- of this entry and the one found among the others, if any, the one that goes before
abbrev pub sooner : ℕ × Process → Option (ℕ × Process) → Option (ℕ × Process)
sooner entry None = Some entry
sooner entry (Some other) = if goes_before other entry then Some other else Some entry

-- the entry of a table that no other goes before, found by a walk from the end of the table
abbrev pub foremost : Table → Option (ℕ × Process)
foremost [] = None
foremost (entry ∷ entries) = sooner entry (foremost entries)

-- the processes of a table that are ready on a core
abbrev pub ready_entries : ℕ → Table → Table
ready_entries core table = filter (λ entry. is_ready core entry.1) table

-- the choice of a core among the processes of one partition
abbrev pub choice_in : ℕ → ℕ → Table → Option Who
choice_in partition core table = option_map (λ entry. record { part = partition; proc = entry.0 }) (foremost (ready_entries core table))

-- whether a process exists and is ready on a core
abbrev pub is_one_ready : ℕ → Option Process → Bool
is_one_ready core None = false
is_one_ready core (Some process) = is_ready core process

-- the choice of a core among the processes of one partition whose lock this process owns, if one does: the owner if it is ready on this
-- core, else the choice among all
abbrev pub choice_under : ℕ → ℕ → Option ℕ → Table → Option Who
choice_under partition core None table = choice_in partition core table
choice_under partition core (Some owner) table =
    if is_one_ready core (item_at table owner) then Some (record { part = partition; proc = owner }) else choice_in partition core table

-- whether the error handler of a partition, process 0 in NORMAL, is ready on a core
abbrev pub is_handling_on : ℕ → Partition → Bool
is_handling_on core partition = is_normal partition.mode && is_one_ready core (item_at partition.table 0)

-- whether a process is alive, if it exists
abbrev pub is_one_alive : Option Process → Bool
is_one_alive None = false
is_one_alive (Some process) = process.alive

-- whether there is a handler that lets the other cores of its partition stand still
abbrev pub pauses_others : Option ErrorHandler → Bool
pauses_others None = false
pauses_others (Some handler) = handler.pauses

-- whether the error handler of a partition lets the other cores stand still: it is ready, and the other cores pause for it
abbrev pub is_paused : Partition → Bool
is_paused partition = is_normal partition.mode && (is_one_alive (item_at partition.table 0) && pauses_others partition.handler)

-- the choice of a core in a window of this partition: the error handler on its own core; none on a core that the handler lets stand still;
-- else the choice under the lock
abbrev pub partition_choice : ℕ → ℕ → Partition → Option Who
partition_choice number core partition =
    if is_handling_on core partition then Some (record { part = number; proc = 0 })
    else if is_paused partition then None
    else choice_under number core partition.lock.owner partition.table

-- the choice of a core in a window of the partition of this number; idle if the core is in no window
abbrev pub choice_of : Option ℕ → (ℕ → Partition) → ℕ → Option Who
choice_of None partitions core = None
choice_of (Some number) partitions core = partition_choice number core (partitions number)

-- the choice of a core at its present time, among the processes of the partition whose window it is   (partition scheduling, section 2)
abbrev pub choice : Configuration → State → ℕ → Option Who
choice configuration state core = choice_of (window_at configuration core (time_of state.cores core)) state.partitions core

-- the rule of the choice, in sentences that share nothing with the tests above

-- a process is ready on a core if it is not dormant, not faulted and not suspended, waits for nothing, and has this core as its own   (process
-- states, section 2)
pub record IsReady (core : ℕ) (process : Process) : Type 0 where
  pub alive : IsTrue process.alive
  pub sound : IsFalse process.faulted
  pub goes_on : IsFalse process.suspended
  pub waits : process.wait ≡ wait.Nothing
  pub affinity : process.affinity ≡ core

-- one process goes before another by a higher current priority; among equals by an earlier ready position; at one position by a smaller
-- number   (process scheduling, section 2)
abbrev pub GoesBefore : ℕ × Process → ℕ × Process → Type 0
GoesBefore one other =
    (other.1.current_priority < one.1.current_priority)
    ⊎ ((one.1.current_priority ≡ other.1.current_priority)
    × ((one.1.ready_position < other.1.ready_position) ⊎ ((one.1.ready_position ≡ other.1.ready_position) × (one.0 < other.0))))

-- the first of the ready processes of a table: one that is ready on this core, and that no ready process goes before
pub record IsChosen (core : ℕ) (table : Table) (entry : ℕ × Process) : Type 0 where
  pub is_member : Contains table entry
  pub ready : IsReady core entry.1
  pub first : (other : ℕ × Process) → Contains table other → IsReady core other.1 → ¬ GoesBefore other entry

-- a process of this number is in the table, and is ready on this core
abbrev pub IsReadyOwner : ℕ → ℕ → Table → Type 0
IsReadyOwner core owner table = (process : Process) × Contains table (owner, process) × IsReady core process

-- the choice of a core among the processes of a table, if this process owns the partition's lock, or if none does: an owner that is ready on
-- this core runs there, whatever the priorities are; else the first of the ready processes   (LOCK_PREEMPTION, section 3)
pub data IsChosenUnder (core : ℕ) (owner : Option ℕ) (table : Table) (entry : ℕ × Process) : Type 0 where
  owner_runs : owner ≡ Some entry.0 → Contains table entry → IsReady core entry.1 → IsChosenUnder core owner table entry
  first_runs : ((number : ℕ) → owner ≡ Some number → ¬ IsReadyOwner core number table) → IsChosen core table entry → IsChosenUnder core owner table entry

-- process 0 of a partition is its error handler: the mode is NORMAL, and process 0 is in the table
pub record IsTheHandler (partition : Partition) (process : Process) : Type 0 where
  pub normal : partition.mode ≡ Normal
  pub is_member : Contains partition.table (0, process)

-- the error handler of a partition is ready on this core
abbrev pub HandlerIsReady : ℕ → Partition → Type 0
HandlerIsReady core partition = (process : Process) × IsTheHandler partition process × IsReady core process

-- the cores of a partition stand still but for the handler's: the handler is not dormant, and the others pause for it
abbrev pub OthersPause : Partition → Type 0
OthersPause partition =
    ((process : Process) × IsTheHandler partition process × IsTrue process.alive)
    × ((handler : ErrorHandler) × (partition.handler ≡ Some handler) × IsTrue handler.pauses)

-- the choice of a core in a window of a partition: the error handler where it is ready; where it is not, no process if the cores stand still
-- for it, else the one that the lock allows   (error handler, section 2)
pub data IsChosenIn (core : ℕ) (partition : Partition) (entry : ℕ × Process) : Type 0 where
  handler_runs : entry.0 ≡ 0 → IsTheHandler partition entry.1 → IsReady core entry.1 → IsChosenIn core partition entry
  other_runs : ¬ HandlerIsReady core partition → ¬ OthersPause partition → IsChosenUnder core partition.lock.owner partition.table entry → IsChosenIn core partition entry
