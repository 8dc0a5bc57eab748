-- What is said of the values that a run gives to a figure: how many there are, their sum, the greatest and the least.
use Rattle.std.specs.Prelude.{◌≡◌, ℕ, ◌-◌, List, [], ◌∷◌, ◌++◌, Option, Some, None, length, map, nat_le, option_map, sum, if◌then◌else◌}
use Rattle.std.specs.Option.{option_to_list, option_map_or}
use Rattle.indexmap.specs.IndexMap.{get, keys}
use Rattle.run_numbers.specs.declared.figure.Figure.{Figure}
use Rattle.run_numbers.specs.declared.observation.Observation.{Observation}
use Rattle.run_numbers.specs.declared.observation.Observation.TheVariants.{Begins, Ends, Value}
use Rattle.run_numbers.specs.declared.tallies.Tallies.{Tallies}
use Rattle.run_numbers.specs.declared.tally.Extreme.{Extreme}
use Rattle.run_numbers.specs.declared.tally.Tally.{Tally}
use Rattle.run_numbers.specs.Figures.{is_same_figure}

-- an observation, with the place of its record
pub record Placed : Type 0 where
  pub place : ℕ
  pub observation : Observation

-- times that begin and end

-- the beginning of the time of a figure that goes on after this observation, by the one that went on before it
abbrev pub begun_after : Figure → Observation → Option ℕ → Option ℕ
begun_after figure (Value other value) before = before
begun_after figure (Begins other time) before = if is_same_figure other figure then Some time else before
begun_after figure (Ends other time) before = if is_same_figure other figure then None else before

-- when the time of a figure began that goes on after these observations, the newest first
abbrev pub begun : Figure → List Placed → Option ℕ
begun figure [] = None
begun figure (placed ∷ earlier) = begun_after figure placed.observation (begun figure earlier)

-- values

-- the value that an observation gives to a figure, if the time of the figure that went on before it began then
abbrev pub value_of : Figure → Observation → Option ℕ → Option ℕ
value_of figure (Value other value) before = if is_same_figure other figure then Some value else None
value_of figure (Begins other time) before = None
value_of figure (Ends other time) before = if is_same_figure other figure then option_map (λ start. time - start) before else None

-- the same, with the place of the record
abbrev pub point_of : Figure → Placed → Option ℕ → Option Extreme
point_of figure placed before = option_map (λ value. record { value = value; place = placed.place }) (value_of figure placed.observation before)

-- the values that these observations, the newest first, give to a figure, the newest first
abbrev pub points_of : Figure → List Placed → List Extreme
points_of figure [] = []
points_of figure (placed ∷ earlier) = option_to_list (point_of figure placed (begun figure earlier)) ++ points_of figure earlier

-- the values of a figure after one value more of a figure that may be another one
abbrev pub points_with : Figure → Extreme → Figure → List Extreme → List Extreme
points_with figure later other points = if is_same_figure figure other then later ∷ points else points

-- tallies

-- a number, or the greatest of 64 bits if it is above that
abbrev pub capped : ℕ → ℕ
capped number = if nat_le number 18446744073709551615 then number else 18446744073709551615

-- the greater of a later value and the greatest before it, if there was one; of equal ones the earlier
abbrev pub greater_of : Extreme → Option Extreme → Extreme
greater_of later None = later
greater_of later (Some earlier) = if nat_le later.value earlier.value then earlier else later

-- the less of a later value and the least before it, if there was one; of equal ones the earlier
abbrev pub less_of : Extreme → Option Extreme → Extreme
less_of later None = later
less_of later (Some earlier) = if nat_le earlier.value later.value then earlier else later

-- the greatest of some values, the newest first
abbrev pub greatest_of : List Extreme → Option Extreme
greatest_of [] = None
greatest_of (point ∷ points) = Some (greater_of point (greatest_of points))

-- the least of some values, the newest first
abbrev pub least_of : List Extreme → Option Extreme
least_of [] = None
least_of (point ∷ points) = Some (less_of point (least_of points))

-- how many values there are, their sum, the greatest and the least
abbrev pub tally_of : List Extreme → Tally
tally_of points = record {
  count = capped (length points);
  total = capped (sum (map (λ (point : Extreme). point.value) points));
  greatest = greatest_of points;
  least = least_of points;
}

-- the tallies that are kept

-- the tally of a figure; a figure that has none has no values
abbrev pub tally_in : Tallies → Figure → Tally
tally_in tallies figure = option_map_or (λ tally. tally) (get is_same_figure tallies.tallies figure) (tally_of [])

-- the figures that have values, in the order in which they got the first one
abbrev pub figures_in : Tallies → List Figure
figures_in tallies = keys tallies.tallies

-- when the time of a figure began that goes on
abbrev pub begun_in : Tallies → Figure → Option ℕ
begun_in tallies figure = get is_same_figure tallies.begun figure

-- the tallies are those of these observations, the newest first
pub record AreOf (run : List Placed) (tallies : Tallies) : Type 0 where
  pub values : (figure : Figure) → tally_in tallies figure ≡ tally_of (points_of figure run)
  pub times : (figure : Figure) → begun_in tallies figure ≡ begun figure run
