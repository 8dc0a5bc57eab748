-- What is shown of a core.
use Rattle.std.specs.Prelude.{ℕ, List, map}
use Rattle.std.specs.List.{range_with_len}
use Rattle.apex_machine.specs.declared.state.CoreState.{CoreState}
use Rattle.apex_machine.specs.Configuration.{Configuration}
use Rattle.apex_machine.specs.Demands.{window_now}
use Rattle.apex_machine.specs.State.{occupant_of, time_of}
use Rattle.run_view.specs.declared.cores.CoreView.{CoreView}

-- a core of this number, as the clock has it
abbrev pub shown_core : Configuration → List CoreState → ℕ → CoreView
shown_core configuration cores core =
    record { core = core; time = time_of cores core; occupant = occupant_of cores core; window = window_now configuration cores core }

-- the cores of a module, by their numbers
abbrev pub shown_cores : Configuration → List CoreState → List CoreView
shown_cores configuration cores = map (shown_core configuration cores) (range_with_len 0 configuration.cores)
