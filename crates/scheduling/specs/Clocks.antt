-- The clocks of a module's cores.
use Rattle.std.specs.Prelude.{ℕ, ◌+◌, List, Option, replicate}
use Rattle.apex_types.specs.declared.record.Who.{Who}
use Rattle.apex_machine.specs.declared.state.CoreState.{CoreState}
use Rattle.apex_machine.specs.State.{cold_core, at_core, time_of}
use Rattle.apex_machine.specs.Step.{KeepsSkew}

-- the cores with their times and occupants, and how far one core may be ahead of another
pub record Clocks : Type 0 where
  pub cores : List CoreState
  pub skew : ℕ

-- this many cores, each idle at time 0
abbrev pub cold_clocks : ℕ → ℕ → Clocks
cold_clocks cores skew = record { cores = replicate cores cold_core; skew = skew }

-- a tick adds one to the time of its core
abbrev pub advanced : ℕ → Clocks → Clocks
advanced core clocks = record clocks { cores = at_core (λ state. record state { time = state.time + 1 }) core clocks.cores }

-- a dispatch gives its core to a process, or leaves it idle
abbrev pub dispatched : ℕ → Option Who → Clocks → Clocks
dispatched core who clocks = record clocks { cores = at_core (λ state. record state { occupant = who }) core clocks.cores }

-- a core may tick: it is then at most the skew ahead of each core
abbrev pub MayTick : ℕ → ℕ → List CoreState → Type 0
MayTick core skew cores = KeepsSkew (time_of cores core + 1) skew cores
