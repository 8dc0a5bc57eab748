-- The rules that options ask for.
use Rattle.std.specs.Prelude.{◌≡◌, ℕ, pos, int_lt, List, [], ◌∷◌, ◌++◌, Bool, ◌&&◌, not, Option, Some, None, map, option_map, option_and_then}
use Rattle.std.specs.Ordering.{int_eq}
use Rattle.apex_types.specs.declared.limits.TheConstants.{GREATEST_OPTION}
use Rattle.apex_types.specs.declared.view.View.{View}
use Rattle.apex_types.specs.Services.{service_number}
use Rattle.csv_rows.specs.Decimal.{decimal}
use Rattle.record_read.specs.Named.{service_named}
use Rattle.user_rules.specs.declared.relation.Relation.{Relation}
use Rattle.user_rules.specs.Meets.{Valued, meets}
use Rattle.asked_rules.specs.declared.given.RuleOptions.{RuleOptions}
use Rattle.asked_rules.specs.declared.option.RuleOption.{RuleOption}
use Rattle.asked_rules.specs.declared.option.RuleOption.TheVariants.{MaxElapsed, Forbid}

-- whether a view keeps to an option: to `--max-elapsed` if its time since the call is at most this many ticks, to `--forbid` if it is
-- not the view of a call of the service
abbrev pub keeps : RuleOption → View → Bool
keeps (MaxElapsed ticks) view = not (int_lt (pos ticks) view.elapsed)
keeps (Forbid service) view = not (int_eq view.kind (pos 0) && int_eq view.service (pos (service_number service)))

-- a relation says what an option asks for: a view meets it exactly if it keeps to the option
abbrev pub Says : RuleOption → Relation → Type 0
Says option relation = (one : Valued) → meets relation one ≡ keeps option one.view

-- relations say what options ask for, one for each, in their order
abbrev pub SayInTurn : List RuleOption → List Relation → Type 0
SayInTurn options relations = (one : Valued) → map (λ relation. meets relation one) relations ≡ map (λ option. keeps option one.view) options

-- an option whose value is given
abbrev pub if_given : {A : Type 0} → (A → RuleOption) → Option A → List RuleOption
if_given option None = []
if_given option (Some value) = option value ∷ []

-- the options that are given, in the order in which their rules are numbered
abbrev pub in_order : RuleOptions → List RuleOption
in_order given = if_given MaxElapsed given.max_elapsed ++ if_given Forbid given.forbidden

-- the value of an option that may be omitted, by its text; none if there is a text that is no value
abbrev pub optional : {A : Type 0} → (List ℕ → Option A) → Option (List ℕ) → Option (Option A)
optional value None = Some None
optional value (Some text) = option_map Some (value text)

-- the values that two texts give: a number of ticks, and a service by its name; none if one of them is no value
abbrev pub values_of : Option (List ℕ) → Option (List ℕ) → Option RuleOptions
values_of ticks service =
    option_and_then (λ max_elapsed. option_map (λ forbidden. record { max_elapsed = max_elapsed; forbidden = forbidden }) (optional service_named service))
    (optional (decimal GREATEST_OPTION) ticks)
