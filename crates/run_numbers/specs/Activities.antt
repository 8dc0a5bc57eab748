-- What a process does while a tick of its core passes.
use Rattle.std.specs.Prelude.{ℕ, List, Option, nat_eq, not, if◌then◌else◌}
use Rattle.apex_types.specs.declared.record.Who.{Who}
use Rattle.apex_machine.specs.declared.state.CoreState.{CoreState}
use Rattle.apex_machine.specs.declared.state.Process.{Process}
use Rattle.apex_machine.specs.declared.state.Wait.{Wait}
use Rattle.apex_machine.specs.declared.state.Wait.TheVariants as wait
use Rattle.apex_machine.specs.State.{is_occupant, occupant_of}
use Rattle.run_numbers.specs.declared.figure.Activity.{Activity}
use Rattle.run_numbers.specs.declared.figure.Activity.TheVariants.{Dormant, Faulted, Ready, Running, Suspended, Waiting}
use Rattle.run_numbers.specs.declared.figure.Figure.TheVariants.{Spent}
use Rattle.run_numbers.specs.declared.observation.Observation.{Observation}
use Rattle.run_numbers.specs.declared.observation.Observation.TheVariants.{Value}
use Rattle.run_numbers.specs.Observed.{when}

-- what a process does that is neither dormant, nor faulted, nor suspended by another one, by what it waits for
abbrev pub activity_by : Wait → Activity
activity_by wait.Nothing = Ready
activity_by (wait.Suspended due) = Suspended
activity_by other = Waiting

-- what a process does while its core has this occupant
abbrev pub activity_of : Option Who → Who → Process → Activity
activity_of occupant who process =
    if is_occupant who occupant then Running
    else if not process.alive then Dormant
    else if process.faulted then Faulted
    else if process.suspended then Suspended
    else activity_by process.wait

-- a tick of this core gives one more tick of what a process of this partition does, if it is the process's own core
abbrev pub spent : ℕ → List CoreState → ℕ → ℕ × Process → List Observation
spent part cores core entry =
    when (nat_eq entry.1.affinity core)
    (Value (Spent (record { part = part; proc = entry.0 }) (activity_of (occupant_of cores core) (record { part = part; proc = entry.0 }) entry.1)) 1)
