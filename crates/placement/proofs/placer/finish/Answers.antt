use Rattle.std.proofs.Common.{◌<◌, ◌≡◌, ◌∙◌, Err, length, ap, sym, subst, arith}
use Rattle.order_cert.specs.Kept.{taken_of}
use Rattle.placement.specs.Lanes.{IsEnded, OnEnd, left_at}
use Rattle.placement.specs.Scan.{row_fault}
use Rattle.placement.proofs.Ends.{HaveEnded, end_fault, end_missing, end_all}
use Rattle.placement.proofs.placer.finish.Goals as goal

pub returns-in-Ok-Some-clause-ended : goal.returns-in-Ok-Some-clause-ended
returns-in-Ok-Some-clause-ended g c =
    let within : c.cores.core < length c.args.intake.now = omega arith in
    λ honest. rw c.order_fault.ensures (end_missing g.R.TextSource.can_fail c.args.intake.now c.cores.intake c.cores.core c.args.place (taken_of c.args.keeper.now) c.in-Ok-Some.field-0-0 (left_at c.next_of.new.intake c.cores.core) within
    (c.cores.invariant.below (c.next_of.ensures.honest honest)) (rw c.in-Ok-Some.field-0-is at (c.in-Ok-Some.ensures.gives honest)))

pub returns-in-Err-clause-ended : goal.returns-in-Err-clause-ended
returns-in-Err-clause-ended g c =
    let within : c.cores.core < length c.args.intake.now = omega arith in
    let answered = c.row_fault.ensures ∙ ap (λ seq. row_fault c.cores.core seq c.in-Err.fault) c.taken.ensures in
    λ honest. subst (λ fault. OnEnd (IsEnded g.R.TextSource.can_fail c.args.intake.now c.args.place (taken_of c.args.keeper.now)) (Err fault)) (sym answered)
    (end_fault g.R.TextSource.can_fail c.args.intake.now c.cores.intake c.cores.core c.args.place (taken_of c.args.keeper.now) c.in-Err.fault
    (left_at c.next_of.new.intake c.cores.core) within
    (c.cores.invariant.below (c.next_of.ensures.honest honest)) (c.in-Err.ensures.gives honest))

pub returns-clause-ended : goal.returns-clause-ended
returns-clause-ended g c =
    let all : c.cores.core ≡ length c.args.intake.now = omega arith in
    λ honest. end_all g.R.TextSource.can_fail c.args.intake.now c.cores.intake c.args.place (taken_of c.args.keeper.now)
    (subst (λ n. HaveEnded c.args.intake.now n c.cores.intake) all (c.cores.invariant.below honest))
