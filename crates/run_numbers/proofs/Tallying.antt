-- The tallies after one observation more.
use Rattle.std.proofs.Common.{◌≡◌, ◌∙◌, ℕ, ◌+◌, ◌-◌, ◌^◌, List, [], ◌∷◌, ◌++◌, Bool, true, false, cond, Option, Some, None, length, map, min, option_map, sum, refl, sym, ap, if◌then◌else◌, arith}
use Rattle.std.proofs.lemmas.Bool.Decides.{nat_tests}
use Rattle.std.proofs.lemmas.List.Sums.{sum_by-cons}
use Rattle.std.specs.Option.{option_map_or, option_to_list}
use Rattle.indexmap.specs.IndexMap.{get}
use Rattle.run_numbers.specs.declared.figure.Figure.{Figure}
use Rattle.run_numbers.specs.declared.observation.Observation.TheVariants.{Begins, Ends, Value}
use Rattle.run_numbers.specs.declared.tallies.Tallies.{Tallies}
use Rattle.run_numbers.specs.declared.tally.Extreme.{Extreme}
use Rattle.run_numbers.specs.declared.tally.Tally.{Tally}
use Rattle.run_numbers.specs.Figures.{is_same_figure}
use Rattle.run_numbers.specs.Tallies.{AreOf, Placed, begun, begun_in, capped, greater_of, greatest_of, least_of, less_of, points_of, points_with, tally_in, tally_of}
use Rattle.run_numbers.proofs.SameFigures.{same_figure}

-- one value more

pub capped_is : (number : ℕ) → capped number ≡ min number 18446744073709551615
capped_is number = grind (arith, nat_tests)

capped_sum : (number more : ℕ) → min (capped number + more) (2 ^ 64 - 1) ≡ capped (more + number)
capped_sum number more = let one = capped_is number in let other = capped_is (more + number) in omega (arith, one, other)

pub with_one_more : (points : List Extreme) (later : Extreme) (tally : Tally) (count total : ℕ) (greatest least : Extreme) → tally ≡ tally_of points
    → count ≡ min (tally.count + 1) (2 ^ 64 - 1) → total ≡ min (tally.total + later.value) (2 ^ 64 - 1) → greatest ≡ greater_of later tally.greatest
    → least ≡ less_of later tally.least → (let one : Tally = record { count = count; total = total; greatest = Some greatest; least = Some least } in one) ≡ tally_of (later ∷ points)
with_one_more points later tally count total greatest least is counts totals greatests leasts =
    let one_more : 1 + length points ≡ length (later ∷ points) = omega arith in
    let values : List ℕ = map (λ (point : Extreme). point.value) points in
    let summed : later.value + sum values ≡ sum (later.value ∷ values) = sym (sum_by-cons (λ (one : ℕ). one) later.value values) in
    let count_is : count ≡ capped (length (later ∷ points)) = counts ∙ ap (λ (one : Tally). min (one.count + 1) (2 ^ 64 - 1)) is ∙ capped_sum (length points) 1 ∙ ap capped one_more in
    let total_is : total ≡ capped (sum (map (λ (point : Extreme). point.value) (later ∷ points))) =
    totals ∙ ap (λ (one : Tally). min (one.total + later.value) (2 ^ 64 - 1)) is ∙ capped_sum (sum (map (λ (point : Extreme). point.value) points)) later.value ∙ ap capped summed in
    let greatest_is : Some greatest ≡ greatest_of (later ∷ points) = ap (λ (one : Extreme). Some one) (greatests ∙ ap (λ (one : Tally). greater_of later one.greatest) is) in
    let least_is : Some least ≡ least_of (later ∷ points) = ap (λ (one : Extreme). Some one) (leasts ∙ ap (λ (one : Tally). less_of later one.least) is) in
    λ i. record { count = count_is i; total = total_is i; greatest = greatest_is i; least = least_is i }

-- the tally of a figure after a value of a figure that may be another one

tally_after : (is_same : Bool) (points : Figure → List Extreme) (old : Tallies) (found : Option Tally) (figure other : Figure) (later : Extreme) (tally : Tally) → is_same_figure figure other ≡ is_same
    → found ≡ cond is_same (Some tally) (get is_same_figure old.tallies other) → tally ≡ tally_of (later ∷ points figure) → tally_in old other ≡ tally_of (points other)
    → option_map_or (λ tally. tally) found (tally_of []) ≡ tally_of (if is_same then later ∷ points other else points other)
tally_after true points old found figure other later tally same now is before =
    ap (λ (one : Option Tally). option_map_or (λ tally. tally) one (tally_of [])) now ∙ is ∙ ap (λ one. tally_of (later ∷ points one)) (same_figure figure other same)
tally_after false points old found figure other later tally same now is before =
    ap (λ (one : Option Tally). option_map_or (λ tally. tally) one (tally_of [])) now ∙ before

pub values_after : (found : Figure → Option Tally) (old : Tallies) (figure : Figure) (later : Extreme) (tally : Tally) → ((other : Figure) → found other
    ≡ cond (is_same_figure figure other) (Some tally) (get is_same_figure old.tallies other))
    → ((points : List Extreme) → tally_in old figure ≡ tally_of points → tally ≡ tally_of (later ∷ points)) → (points : Figure → List Extreme)
    → ((other : Figure) → tally_in old other ≡ tally_of (points other)) → (other : Figure)
    → option_map_or (λ tally. tally) (found other) (tally_of []) ≡ tally_of (points_with figure later other (points other))
values_after found old figure later tally updates more points before other =
    tally_after (is_same_figure figure other) points old (found other) figure other later tally refl (updates other) (more (points figure) (before figure)) (before other)

-- what the observations give

given_points : (is_same : Bool) (later : Extreme) (points : List Extreme)
    → (if is_same then later ∷ points else points) ≡ option_to_list (option_map (λ value. (let one : Extreme = record { value = value; place = later.place } in one)) (if is_same then Some later.value else None)) ++ points
given_points true later points = refl
given_points false later points = refl

-- a value
pub value_taken : (run : List Placed) (old new : Tallies) (figure : Figure) (later : Extreme)
    → ((points : Figure → List Extreme) → ((other : Figure) → tally_in old other ≡ tally_of (points other)) → (other : Figure)
    → tally_in new other ≡ tally_of (points_with figure later other (points other))) → ((other : Figure) → begun_in new other ≡ begun_in old other) → AreOf run old
    → AreOf (record { place = later.place; observation = Value figure later.value } ∷ run) new
value_taken run old new figure later values times are = record {
  values = λ other. values (λ one. points_of one run) are.values other ∙ ap tally_of (given_points (is_same_figure figure other) later (points_of other run));
  times = λ other. times other ∙ are.times other;
}

-- a beginning
pub beginning_taken : (run : List Placed) (old new : Tallies) (figure : Figure) (time place : ℕ) → ((other : Figure) → tally_in new other ≡ tally_in old other)
    → ((other : Figure) → begun_in new other ≡ cond (is_same_figure figure other) (Some time) (begun_in old other)) → AreOf run old
    → AreOf (record { place = place; observation = Begins figure time } ∷ run) new
beginning_taken run old new figure time place values times are = record {
  values = λ other. values other ∙ are.values other;
  times = λ other. times other ∙ ap (λ (one : Option ℕ). cond (is_same_figure figure other) (Some time) one) (are.times other);
}

-- an end of a time that has begun, or has not

ended_points : (is_same : Bool) (run : List Placed) (figure other : Figure) (time place start : ℕ) → is_same_figure figure other ≡ is_same → begun figure run ≡ Some start
    → (let one : Extreme = record { value = time - start; place = place } in if is_same then one ∷ points_of other run else points_of other run)
    ≡ option_to_list (option_map (λ value. (let one : Extreme = record { value = value; place = place } in one)) (if is_same then option_map (λ start. time - start) (begun other run) else None))
    ++ points_of other run
ended_points true run figure other time place start same is =
    let began : begun other run ≡ Some start = ap (λ one. begun one run) (sym (same_figure figure other same)) ∙ is in
    ap (λ (one : Option ℕ). option_to_list (option_map (λ value. (let point : Extreme = record { value = value; place = place } in point)) (option_map (λ start. time - start) one)) ++ points_of other run)
    (sym began)
ended_points false run figure other time place start same is = refl

pub end_taken : (run : List Placed) (old new : Tallies) (figure : Figure) (time place start value : ℕ) → begun_in old figure ≡ Some start → value ≡ time - start
    → ((points : Figure → List Extreme) → ((other : Figure) → tally_in old other ≡ tally_of (points other)) → (other : Figure)
    → tally_in new other ≡ tally_of (points_with figure (record { value = value; place = place }) other (points other)))
    → ((other : Figure) → begun_in new other ≡ cond (is_same_figure figure other) None (begun_in old other)) → AreOf run old
    → AreOf (record { place = place; observation = Ends figure time } ∷ run) new
end_taken run old new figure time place start value began is values times are = record {
  values = λ other. values (λ one. points_of one run) are.values other
      ∙ ap (λ one. tally_of (points_with figure (record { value = one; place = place }) other (points_of other run))) is
      ∙ ap tally_of (ended_points (is_same_figure figure other) run figure other time place start refl (sym (are.times figure) ∙ began));
  times = λ other. times other ∙ ap (λ (one : Option ℕ). cond (is_same_figure figure other) None one) (are.times other);
}

no_points : (is_same : Bool) (run : List Placed) (figure other : Figure) (time place : ℕ) → is_same_figure figure other ≡ is_same → begun figure run ≡ None
    → points_of other run
    ≡ option_to_list (option_map (λ value. (let one : Extreme = record { value = value; place = place } in one)) (if is_same then option_map (λ start. time - start) (begun other run) else None))
    ++ points_of other run
no_points true run figure other time place same none =
    let began : begun other run ≡ None = ap (λ one. begun one run) (sym (same_figure figure other same)) ∙ none in
    ap (λ (one : Option ℕ). option_to_list (option_map (λ value. (let point : Extreme = record { value = value; place = place } in point)) (option_map (λ start. time - start) one)) ++ points_of other run)
    (sym began)
no_points false run figure other time place same none = refl

pub no_end_taken : (run : List Placed) (old new : Tallies) (figure : Figure) (time place : ℕ) → begun_in old figure ≡ None → ((other : Figure) → tally_in new other ≡ tally_in old other)
    → ((other : Figure) → begun_in new other ≡ cond (is_same_figure figure other) None (begun_in old other)) → AreOf run old
    → AreOf (record { place = place; observation = Ends figure time } ∷ run) new
no_end_taken run old new figure time place began values times are = record {
  values = λ other. values other ∙ are.values other
      ∙ ap tally_of (no_points (is_same_figure figure other) run figure other time place refl (sym (are.times figure) ∙ began));
  times = λ other. times other ∙ ap (λ (one : Option ℕ). cond (is_same_figure figure other) None one) (are.times other);
}
