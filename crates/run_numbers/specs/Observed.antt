-- What a record gives if something is so.
use Rattle.std.specs.Prelude.{List, [], ◌∷◌, Bool, true, false}
use Rattle.run_numbers.specs.declared.observation.Observation.{Observation}

-- this observation, if something is so
abbrev pub when : Bool → Observation → List Observation
when true observation = observation ∷ []
when false observation = []
