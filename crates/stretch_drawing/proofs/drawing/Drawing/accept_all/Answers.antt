use Rattle.std.proofs.Common.{◌∷◌, List, subst}
use Rattle.apex_types.specs.declared.record.Ordered.{Ordered}
use Rattle.shown_run.specs.Kept.{IsKept}
use Rattle.shown_run.proofs.Kept.{first_taken, kept_on}
use Rattle.stretch_drawing.proofs.drawing.Drawing.accept_all.Goals as goal

pub accept-requires-clause-accepted : goal.accept-requires-clause-accepted
accept-requires-clause-accepted c =
    let configuration = c.records.self.config.now in
    let taken = c.records.invariant.0 in
    let before = c.records.self.walk in
    let kept : IsKept configuration taken before (c.in-Some.ordered ∷ c.pop_front.new.self.items) =
    subst (λ (list : List Ordered). IsKept configuration taken before list) c.in-Some.ensures.items c.records.invariant.1 in
    first_taken configuration taken before c.in-Some.ordered c.pop_front.new.self.items kept

pub records-preserved : goal.records-preserved
records-preserved c =
    let configuration = c.records.self.config.now in
    let taken = c.records.invariant.0 in
    let before = c.records.self.walk in
    let kept : IsKept configuration taken before (c.in-Some.ordered ∷ c.pop_front.new.self.items) =
    subst (λ (list : List Ordered). IsKept configuration taken before list) c.in-Some.ensures.items c.records.invariant.1 in
    (taken, rw c.in_ok-accept.ensures.config (kept_on configuration taken before c.accept.new.self.walk c.in-Some.ordered c.pop_front.new.self.items kept c.in_ok-accept.ensures.going c.in_ok-accept.ensures.taken))
