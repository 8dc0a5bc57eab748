-- What a call gives to the figures of its caller, and to mutexes.
use Rattle.std.specs.Prelude.{ℕ, List, [], ◌∷◌, ◌++◌, Option, Some, None, nat_eq, if◌then◌else◌}
use Rattle.apex_types.specs.declared.record.Call.{Call as CallRecord}
use Rattle.apex_types.specs.Requested.{service_of}
use Rattle.apex_types.specs.Services.{service_number}
use Rattle.apex_machine.specs.declared.state.CoreState.{CoreState}
use Rattle.apex_machine.specs.declared.state.Process.{Process}
use Rattle.apex_machine.specs.State.{Partition, item_at, time_of}
use Rattle.apex_machine.specs.Waiting.{is_waiting}
use Rattle.run_numbers.specs.declared.figure.Figure.TheVariants.{Calls, Waits}
use Rattle.run_numbers.specs.declared.observation.Observation.{Observation}
use Rattle.run_numbers.specs.declared.observation.Observation.TheVariants.{Value}
use Rattle.run_numbers.specs.Mutexes.{held}
use Rattle.run_numbers.specs.Observed.{when}
use Rattle.run_numbers.specs.Releases.{worked}

-- a call is one more of its service, and may be one that waits
abbrev pub served : CallRecord → List Observation
served call =
    Value (Calls call.who (service_number (service_of call.request))) 1
    ∷ when (is_waiting call.claim.out) (Value (Waits call.who (service_number (service_of call.request))) 1)

-- what a call of a core gives, by its caller
abbrev pub called_by : ℕ → List CoreState → ℕ → Partition → CallRecord → Option Process → List Observation
called_by part cores core partition call None = []
called_by part cores core partition call (Some process) =
    served call ++ worked (time_of cores core) process call ++ held part cores core partition call

-- what a call of a core gives, if its caller is of this partition
abbrev pub called : ℕ → List CoreState → ℕ → Partition → CallRecord → List Observation
called part cores core partition call =
    if nat_eq call.who.part part then called_by part cores core partition call (item_at partition.table call.who.proc) else []
