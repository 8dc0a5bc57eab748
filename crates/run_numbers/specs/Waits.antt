-- What the end of a wait gives.
use Rattle.std.specs.Prelude.{ℕ, ◌+◌, ◌-◌, List, [], ◌∷◌, ◌++◌, Option, Some, None, Bool, true, false, nat_eq, nat_lt, ◌&&◌, if◌then◌else◌}
use Rattle.std.specs.Option.{option_map_or}
use Rattle.apex_types.specs.declared.code.Code.{Code}
use Rattle.apex_types.specs.declared.code.Code.TheVariants as code
use Rattle.apex_types.specs.declared.object_kind.ObjectKind.TheVariants as kind
use Rattle.apex_types.specs.declared.record.Who.{Who}
use Rattle.apex_types.specs.declared.service.Service.{Service}
use Rattle.apex_types.specs.Services.{service_number}
use Rattle.apex_machine.specs.declared.state.CoreState.{CoreState}
use Rattle.apex_machine.specs.declared.state.Process.{Process}
use Rattle.apex_machine.specs.declared.state.Wait.{Wait}
use Rattle.apex_machine.specs.declared.state.Wait.TheVariants as wait
use Rattle.apex_machine.specs.Processes.{code_when_due, service_of_wait}
use Rattle.apex_machine.specs.State.{Mutex, Partition, Table, is_same_kind, item_at, time_of}
use Rattle.run_numbers.specs.declared.figure.Figure.TheVariants.{Outranked, TimeOuts, Waited}
use Rattle.run_numbers.specs.declared.figure.Thing.TheVariants as thing
use Rattle.run_numbers.specs.declared.observation.Observation.{Observation}
use Rattle.run_numbers.specs.declared.observation.Observation.TheVariants.{Value}
use Rattle.run_numbers.specs.Observed.{when}
use Rattle.run_numbers.specs.Releases.{released}
use Rattle.run_numbers.specs.Tallies.{capped}

-- the time of a core after a record that ends a wait there: a tick that does is one of the core
abbrev pub end_time : Bool → List CoreState → ℕ → ℕ
end_time true cores core = capped (time_of cores core + 1)
end_time false cores core = time_of cores core

abbrev pub is_timed_out : Code → Bool
is_timed_out code.TimedOut = true
is_timed_out other = false

-- whether a wait that ends times out: a tick ends it, and it was for something else than a time
abbrev pub times_out : Bool → Wait → Bool
times_out is_tick ended = is_tick && is_timed_out (code_when_due ended)

-- a process has waited for so many ticks in a service, if its wait began with a call
abbrev pub waited : Who → ℕ → Bool → Option Service → List Observation
waited who ticks timed_out None = []
waited who ticks timed_out (Some service) =
    Value (Waited who (service_number service)) ticks ∷ when timed_out (Value (TimeOuts who (service_number service)) 1)

-- whether this priority is above the one that a process has retained
abbrev pub is_above : ℕ → Option Process → Bool
is_above priority None = false
is_above priority (Some process) = nat_lt process.retained_priority priority

-- whether this priority is above the one that the owner of a mutex has retained
abbrev pub outranks : Table → ℕ → Option Mutex → Bool
outranks table priority None = false
outranks table priority (Some mutex) = option_map_or (λ owner. is_above priority (item_at table owner)) mutex.owner false

abbrev pub outranks_owner : Partition → ℕ → ℕ → Bool
outranks_owner partition mutex priority = outranks partition.table priority (item_at partition.mutexes mutex)

-- a process has waited for so many ticks for a mutex whose owner has retained a lower priority
abbrev pub outranked_by : ℕ → Partition → ℕ → ℕ → Wait → List Observation
outranked_by part partition ticks priority (wait.At set due) =
    when (is_same_kind set.kind kind.Mutex && outranks_owner partition set.number priority) (Value (Outranked (thing.Mutex part set.number)) ticks)
outranked_by part partition ticks priority other = []

abbrev pub outranked : ℕ → Partition → ℕ → Process → List Observation
outranked part partition ticks process = outranked_by part partition ticks process.current_priority process.wait

-- what the end of the wait of a process gives: the ticks since its call, a release, and whether it waited for a process of a lower priority
abbrev pub ended_of_process : List CoreState → Partition → Bool → Who → Process → List Observation
ended_of_process cores partition is_tick who process =
    waited who (end_time is_tick cores process.affinity - process.called_at) (times_out is_tick process.wait) (service_of_wait process.wait)
    ++ released who process.wait
    ++ outranked who.part partition (end_time is_tick cores process.affinity - process.called_at) process

-- what the end of the wait of a process gives that a record names, if it is one of this partition
abbrev pub ended_of : ℕ → List CoreState → Partition → Bool → Who → List Observation
ended_of part cores partition is_tick who =
    if nat_eq who.part part
    then option_map_or (λ process. ended_of_process cores partition is_tick who process) (item_at partition.table who.proc) []
    else []
