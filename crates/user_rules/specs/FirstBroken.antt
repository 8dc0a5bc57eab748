-- The first broken view: the first that does not meet what is required, with the values at it. Rules are seen as their relations.
use Rattle.std.specs.Prelude.{◌≡◌, ◌+◌, false, ℕ, List, ◌∷◌, ◌++◌, Option, Some, None, length}
use Rattle.std.specs.List.{All, AllPass}
use Rattle.std.specs.Option.{option_map}
use Rattle.apex_types.specs.declared.view.View.{View}
use Rattle.user_rules.specs.declared.broken.Broken.{Broken}
use Rattle.user_rules.specs.declared.relation.Relation.{Relation}
use Rattle.user_rules.specs.Meets.{Valued, meets}
use Rattle.user_rules.specs.Remembered.{Requirements, after, valued}

-- a view meets every rule
abbrev pub MeetsAll : List Relation → Valued → Type 0
MeetsAll relations one = AllPass (λ relation. meets relation one) relations

-- each of these views, with the values at it, meets every rule
abbrev pub AllMeet : Requirements → List View → Type 0
AllMeet requirements views = All (MeetsAll requirements.relations) (valued requirements views)

-- the first rule that a view breaks, counted from 0: the view meets all rules before it
pub record IsFirstRuleBroken (relations : List Relation) (one : Valued) (rule : ℕ) : Type 0 where
  pub earlier : List Relation
  pub relation : Relation
  pub later : List Relation
  pub split : relations ≡ earlier ++ relation ∷ later
  pub counted : length earlier ≡ rule
  pub met : MeetsAll earlier one
  pub unmet : meets relation one ≡ false

-- the first view that breaks a rule, counted from 0, and the first rule that it breaks: all views before it meet every rule
pub record IsFirstViewBroken (relations : List Relation) (views : List Valued) (broken : Broken) : Type 0 where
  pub before : List Valued
  pub view : Valued
  pub after : List Valued
  pub split : views ≡ before ++ view ∷ after
  pub counted : length before ≡ broken.view
  pub met : All (MeetsAll relations) before
  pub first : IsFirstRuleBroken relations view broken.rule

-- the first view that breaks a rule, and the first rule that it breaks; none if each view meets every rule
abbrev pub IsFirstAmong : List Relation → List Valued → Option Broken → Type 0
IsFirstAmong relations views None = All (MeetsAll relations) views
IsFirstAmong relations views (Some broken) = IsFirstViewBroken relations views broken

-- the same of views with the values that the memories have at them
abbrev pub IsFirstBroken : Requirements → List View → Option Broken → Type 0
IsFirstBroken requirements views found = IsFirstAmong requirements.relations (valued requirements views) found

-- what was found, with this many more views before it
abbrev pub moved_by : ℕ → Option Broken → Option Broken
moved_by count found = option_map (λ broken. record { view = count + broken.view; rule = broken.rule }) found

-- the laws

-- in a list of views, at most one breaks a rule first, and there is one rule that it breaks first
abbrev pub OneFirstBroken : Type 0
OneFirstBroken =
    (requirements : Requirements) (views : List View) (one other : Option Broken)
    → IsFirstBroken requirements views one → IsFirstBroken requirements views other → one ≡ other

-- after views that meet every rule, the first broken view is that of the views after them, with the earlier views counted in
abbrev pub FirstBrokenAfter : Type 0
FirstBrokenAfter =
    (requirements : Requirements) (front back : List View) (found : Option Broken)
    → AllMeet requirements front → IsFirstBroken (after requirements front) back found
    → IsFirstBroken requirements (front ++ back) (moved_by (length front) found)

-- the first broken view stays the first, whatever views come after
abbrev pub FirstBrokenStays : Type 0
FirstBrokenStays =
    (requirements : Requirements) (front back : List View) (broken : Broken)
    → IsFirstBroken requirements front (Some broken) → IsFirstBroken requirements (front ++ back) (Some broken)
