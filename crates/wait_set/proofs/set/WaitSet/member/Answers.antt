use Rattle.std.proofs.Common.{sym, ◌∙◌}
use Rattle.std.proofs.lemmas.Bool.{eqb-true}
use Rattle.wait_set.proofs.Members.{another_after, first-is_member, nobody_after}
use Rattle.wait_set.proofs.set.WaitSet.member.Goals as goal

pub returns-in_err-who-clause-none : goal.returns-in_err-who-clause-none
returns-in_err-who-clause-none c =
    λ none. rw (← c.self.view_is) (nobody_after _ c.self.inside.places _ _ c.new.ensures c.self.invariant.found (c.range.ensures.in_range tt) c.in_err-who.ensures.steps.0)

pub returns-then-eq-clause-is_member : goal.returns-then-eq-clause-is_member
returns-then-eq-clause-is_member c =
    rw (← c.self.view_is) (eqb-true _ _ (sym c.eq.ensures ∙ c.if-eq.true), first-is_member _ _ _ c.self.inside.places _ _ _ c.self.invariant.found (c.range.ensures.in_range tt) c.in_ok-who.ensures.steps)

pub returns-else-eq-clause-none : goal.returns-else-eq-clause-none
returns-else-eq-clause-none c =
    λ none. rw (← c.self.view_is) (another_after _ _ _ c.self.inside.places _ _ _ c.new.ensures c.self.invariant.found (c.range.ensures.in_range tt) c.in_ok-who.ensures.steps (sym c.eq.ensures ∙ c.if-eq.false))
