-- What a record gives to the figures of cores and windows.
use Rattle.std.specs.Prelude.{ℕ, ◌%◌, List, [], ◌∷◌, ◌++◌, Option, Some, None, is_none, is_some}
use Rattle.apex_types.specs.declared.record.Body.{Body}
use Rattle.apex_types.specs.declared.record.Body.TheVariants.{Tick}
use Rattle.apex_machine.specs.declared.state.CoreState.{CoreState}
use Rattle.apex_machine.specs.Configuration.{Configuration}
use Rattle.apex_machine.specs.Demands.{window_now}
use Rattle.apex_machine.specs.State.{occupant_of, time_of}
use Rattle.module_config.specs.Order.{windows_begun}
use Rattle.run_numbers.specs.declared.figure.Figure.TheVariants.{BusyTicks, CoreTicks, IdleTicks, WindowTicks}
use Rattle.run_numbers.specs.declared.figure.WindowKey.{WindowKey}
use Rattle.run_numbers.specs.declared.observation.Observation.{Observation}
use Rattle.run_numbers.specs.declared.observation.Observation.TheVariants.{Value}
use Rattle.run_numbers.specs.Observed.{when}

-- the window of this partition in which a core is: as many windows have begun, by core and start
abbrev pub window_of : Configuration → List CoreState → ℕ → ℕ → WindowKey
window_of configuration cores core part =
    record { core = core; number = windows_begun configuration core (time_of cores core); part = part }

-- a tick in a window is one more of the window's, at its offset in the major frame, and a busy one if the core runs a process
abbrev pub ticked_in : Configuration → List CoreState → ℕ → Option ℕ → List Observation
ticked_in configuration cores core None = []
ticked_in configuration cores core (Some part) =
    Value (WindowTicks (window_of configuration cores core part)) (time_of cores core % configuration.frame)
    ∷ when (is_some (occupant_of cores core)) (Value (BusyTicks (window_of configuration cores core part)) 1)

-- what a tick of a core gives to the window that it is in, if it is in one
abbrev pub window_ticked : Configuration → List CoreState → ℕ → List Observation
window_ticked configuration cores core = ticked_in configuration cores core (window_now configuration cores core)

-- a tick of a core is one more of the core's, and an idle one if the core runs no process
abbrev pub core_ticked : Configuration → List CoreState → ℕ → List Observation
core_ticked configuration cores core =
    Value (CoreTicks core) 1
    ∷ when (is_none (occupant_of cores core)) (Value (IdleTicks core) 1)
    ++ window_ticked configuration cores core

-- what a record of a core gives to the figures of cores and windows: a tick alone gives something
abbrev pub observed_of_cores : Configuration → List CoreState → ℕ → Body → List Observation
observed_of_cores configuration cores core (Tick woken) = core_ticked configuration cores core
observed_of_cores configuration cores core body = []
