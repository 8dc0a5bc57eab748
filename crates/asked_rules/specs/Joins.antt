-- How relations are combined.
use Rattle.std.specs.Prelude.{◌≡◌, Bool, ◌&&◌, ◌||◌, Option, Some, None}
use Rattle.user_rules.specs.Meets.{meets}
use Rattle.user_rules.specs.declared.relation.Relation.{Relation}
use Rattle.asked_rules.specs.declared.relation.Join.{Join}
use Rattle.asked_rules.specs.declared.relation.Join.TheVariants.{And, Or}

-- both hold, or at least one of the two
abbrev pub joins : Join → Bool → Bool → Bool
joins And one other = one && other
joins Or one other = one || other

-- two relations are combined into a third; there is none if memory ran out
abbrev pub IsJoined : Join → Option Relation → Option Relation → Option Relation → Type 0
IsJoined join first others None = Unit {0}
IsJoined join (Some first) (Some others) (Some both) = meets both ≡ (λ one. joins join (meets first one) (meets others one))
IsJoined join _ _ (Some both) = ⊥
