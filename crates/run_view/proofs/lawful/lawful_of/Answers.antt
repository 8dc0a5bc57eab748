-- What is lawful follows from the evidence.
use Rattle.std.proofs.Common.{List, subst, sym}
use Rattle.std.proofs.lemmas.Result.{IfOk-weaker}
use Rattle.run_view.specs.declared.lawful.Lawful.{Lawful}
use Rattle.run_view.specs.Lawful.{FollowsFrom}
use Rattle.run_view.proofs.Following.{lawful_by, nothing_follows}
use Rattle.run_view.proofs.lawful.lawful_of.Goals as goal

pub returns-in-Choice : goal.returns-in-Choice
returns-in-Choice c = λ agrees. IfOk-weaker c.only.result _ _ (λ lawful so. lawful_by _ _ _ _ _ _ (c.in-Choice.ensures agrees) so) c.only.ensures

pub returns-in-Missed : goal.returns-in-Missed
returns-in-Missed c = λ agrees. IfOk-weaker c.only-in-Missed.result _ _ (λ lawful so. lawful_by _ _ _ _ _ _ (c.in-Missed.ensures agrees) so) c.only-in-Missed.ensures

pub returns-in-Priority : goal.returns-in-Priority
returns-in-Priority c = λ agrees. IfOk-weaker c.lawful_priority.result _ _ (λ lawful so. lawful_by _ _ _ _ _ _ (c.in-Priority.ensures agrees) so) c.lawful_priority.ensures

pub returns-in-Answer : goal.returns-in-Answer
returns-in-Answer c = λ agrees. IfOk-weaker c.lawful_claim.result _ _ (λ lawful so. lawful_by _ _ _ _ _ _ (c.in-Answer.ensures agrees) so) c.lawful_claim.ensures

pub returns-in-Named : goal.returns-in-Named
returns-in-Named c = λ agrees. IfOk-weaker c.lawful_names.result _ _ (λ lawful so. lawful_by _ _ _ _ _ _ (c.in-Named.ensures agrees) so) c.lawful_names.ensures

pub returns-in_default : goal.returns-in_default
returns-in_default c = λ agrees.
    let part = c.args.piece.now.part in
    let ordered = c.args.ordered.now in
    let found = c.evidence.result in
    lawful_by c.args.config.now part ordered c.args.cause found _ (c.evidence.ensures agrees)
    (subst (λ (shown : List Lawful). FollowsFrom found part ordered.core ordered.rec.body c.args.cause shown) (sym c.new.ensures.items)
    (nothing_follows found part ordered.core ordered.rec.body c.args.cause c.in_default.not-Choice c.in_default.not-Missed c.in_default.not-Priority c.in_default.not-Answer c.in_default.not-Named))
