-- What is given if a test holds.
use Rattle.std.proofs.Common.{◌≡◌, List, [], Bool, true, sym, ap, if◌then◌else◌}
use Rattle.run_numbers.specs.declared.observation.Observation.{Observation}

abbrev pub given_if : Bool → List Observation → List Observation
given_if test given = if test then given else []

pub is_given : (test : Bool) (given : List Observation) → test ≡ true → given ≡ given_if test given
is_given test given holds = ap (λ one. given_if one given) (sym holds)
