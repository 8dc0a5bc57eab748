-- The times at which a table may be changed.
use Rattle.std.specs.Prelude.{ℕ, ◌<◌, ◌≤◌, List, [], ◌∷◌}
use Rattle.apex_types.specs.declared.limits.TheConstants.{GREATEST_SPAN, PLACE_COUNT}
use Rattle.apex_machine.specs.declared.state.CoreState.{CoreState}

-- each core's time is below the number of places
abbrev pub TimesFit : List CoreState → Type 0
TimesFit [] = Unit {0}
TimesFit (state ∷ states) = (state.time < PLACE_COUNT) × TimesFit states

-- a partition's period, in ticks, is one that can be configured, and the times of the cores can be those of a recording
pub record IsTimely (period : ℕ) (cores : List CoreState) : Type 0 where
  pub least : 1 ≤ period
  pub most : period ≤ GREATEST_SPAN
  pub times : TimesFit cores
