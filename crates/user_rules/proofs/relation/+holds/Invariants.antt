-- A relation is deeper than those that it combines.
use Rattle.std.proofs.Common.{ℕ, ◌+◌}
use Rattle.user_rules.specs.declared.relation.Relation.{Relation}
use Rattle.user_rules.specs.declared.relation.Relation.TheVariants.{Less, Equal, Greater, And', Or', Not'}
use Rattle.user_rules.proofs.relation.+holds.Given as goal

-- how many comparisons and combinations a relation has
abbrev pub parts : Relation → ℕ
parts (Less left right) = 1
parts (Equal left right) = 1
parts (Greater left right) = 1
parts (And' left-place left right-place right) = 3 + (parts left + parts right)
parts (Or' left-place left right-place right) = 3 + (parts left + parts right)
parts (Not' place negated) = 3 + parts negated

abbrev pub decreases-Relation::holds : goal.decreases-Relation::holds
decreases-Relation::holds l = parts l.self.now

abbrev pub decreases-both_hold : goal.decreases-both_hold
decreases-both_hold l = 1 + (parts l.left.now + parts l.right.now)

abbrev pub decreases-one_holds : goal.decreases-one_holds
decreases-one_holds l = 1 + (parts l.left.now + parts l.right.now)

abbrev pub decreases-part_holds : goal.decreases-part_holds
decreases-part_holds l = 1 + parts l.relation.now
