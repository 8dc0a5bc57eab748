-- What a call gives to the hold of a mutex.
use Rattle.std.specs.Prelude.{ℕ, List, [], ◌∷◌, ◌++◌, Option, Some, None, nat_lt, if◌then◌else◌}
use Rattle.std.specs.Option.{option_map_or}
use Rattle.apex_types.specs.declared.operation.{MutexOperation.MutexOperation}
use Rattle.apex_types.specs.declared.operation.ObjectOperation.TheVariants as on
use Rattle.apex_types.specs.declared.record.Call.{Call as CallRecord}
use Rattle.apex_types.specs.declared.record.Who.{Who}
use Rattle.apex_types.specs.declared.request.Request.{Request}
use Rattle.apex_types.specs.declared.request.Request.TheVariants as request
use Rattle.apex_machine.specs.declared.state.CoreState.{CoreState}
use Rattle.apex_machine.specs.State.{Mutex, Partition, Table, item_at, time_of}
use Rattle.apex_machine.specs.Waiting.{is_no_error}
use Rattle.partition_objects.specs.Numbers.{number_of}
use Rattle.run_numbers.specs.declared.figure.Figure.{Figure}
use Rattle.run_numbers.specs.declared.figure.Figure.TheVariants.{Hold}
use Rattle.run_numbers.specs.declared.figure.Thing.TheVariants as thing
use Rattle.run_numbers.specs.declared.observation.Observation.{Observation}
use Rattle.run_numbers.specs.declared.observation.Observation.TheVariants.{Begins, Ends}

-- the time of the core of a process
abbrev pub own_time : List CoreState → Table → ℕ → ℕ
own_time cores table number = option_map_or (λ process. time_of cores process.affinity) (item_at table number) 0

-- ACQUIRE_MUTEX of a free mutex begins a hold
abbrev pub acquired : Figure → Option ℕ → ℕ → List Observation
acquired hold None now = Begins hold now ∷ []
acquired hold (Some owner) now = []

-- the hold of the owner ends, at the time of its core
abbrev pub hold_ended : Figure → List CoreState → Table → Option ℕ → List Observation
hold_ended hold cores table None = []
hold_ended hold cores table (Some owner) = Ends hold (own_time cores table owner) ∷ []

-- the hold of the process that gets the mutex begins, at the time of its core
abbrev pub hold_begun : Figure → List CoreState → Table → List Who → List Observation
hold_begun hold cores table [] = []
hold_begun hold cores table (next ∷ others) = Begins hold (own_time cores table next.proc) ∷ []

-- a mutex changes its owner
abbrev pub passed_on : Figure → List CoreState → Table → Option ℕ → List Who → List Observation
passed_on hold cores table owner woken = hold_ended hold cores table owner ++ hold_begun hold cores table woken

-- an operation on a mutex: its last release and RESET_MUTEX end the hold
abbrev pub held_by : Figure → List CoreState → ℕ → Table → Mutex → List Who → MutexOperation → List Observation
held_by hold cores core table mutex woken (MutexOperation.Acquire time_out) = acquired hold mutex.owner (time_of cores core)
held_by hold cores core table mutex woken MutexOperation.Release =
    if nat_lt 1 mutex.count then [] else passed_on hold cores table mutex.owner woken
held_by hold cores core table mutex woken (MutexOperation.Reset process) = passed_on hold cores table mutex.owner woken

-- an operation on the mutex of this number, if there is one
abbrev pub held_at : ℕ → List CoreState → ℕ → Partition → List Who → MutexOperation → ℕ → List Observation
held_at part cores core partition woken operation number =
    option_map_or (λ mutex. held_by (Hold (thing.Mutex part number)) cores core partition.table mutex woken operation) (item_at partition.mutexes number) []

abbrev pub held_through : ℕ → List CoreState → ℕ → Partition → List Who → Request → List Observation
held_through part cores core partition woken (request.Object given (on.Mutex operation)) =
    option_map_or (λ number. held_at part cores core partition woken operation number) (number_of given) []
held_through part cores core partition woken other = []

-- what a call of a core gives to the hold of a mutex, if it answers NO_ERROR
abbrev pub held : ℕ → List CoreState → ℕ → Partition → CallRecord → List Observation
held part cores core partition call =
    if is_no_error call.claim.out then held_through part cores core partition call.claim.woken call.request else []
