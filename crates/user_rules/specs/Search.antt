-- The two searches that find the first broken view where there are no memories: for the view, and for the rule that it breaks.
use Rattle.std.specs.Prelude.{◌<◌, Bool, ℕ, not, List, Option, Some, None, length, slice_index_or, take}
use Rattle.std.specs.List.{All, list_all}
use Rattle.user_rules.specs.declared.relation.Relation.{Relation}
use Rattle.user_rules.specs.FirstBroken.{IsFirstRuleBroken, MeetsAll}
use Rattle.user_rules.specs.Meets.{Valued, meets}

-- whether a view breaks a rule
abbrev pub breaks_one : List Relation → Valued → Bool
breaks_one relations one = not (list_all (λ relation. meets relation one) relations)

-- the first rule that a view breaks, counted from 0, if it breaks one
abbrev pub IsFirstRule : List Relation → Valued → Option ℕ → Type 0
IsFirstRule relations one None = MeetsAll relations one
IsFirstRule relations one (Some rule) = IsFirstRuleBroken relations one rule

-- the first view that breaks a rule, counted from 0, if one does: all views before it meet every rule
abbrev pub IsFirstView : List Relation → List Valued → Option ℕ → Type 0
IsFirstView relations views None = All (MeetsAll relations) views
IsFirstView relations views (Some place) =
    (place < length views) × All (MeetsAll relations) (take place views) × ((default : Valued) → ¬ MeetsAll relations (slice_index_or views place default))
