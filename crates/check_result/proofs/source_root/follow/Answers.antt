use Rattle.std.proofs.Common.{ap, ◌∙◌, map}
use Rattle.check_result.specs.FileNames.{parts_of}
use Rattle.check_result.proofs.Walked.{walk-all, walk-next}
use Rattle.check_result.proofs.source_root.follow.Goals as goal

pub loop-part-preserved : goal.loop-part-preserved
loop-part-preserved c =
    walk-next (map (λ part. part.now) c.args.place.now.items) c.deref-part-items.result.now c.loop-part.part-index _ _ _ c.loop-part-test.true c.loop-part.invariant c.in_ok-take_step.ensures

pub returns : goal.returns
returns c =
    walk-all (map (λ part. part.now) c.args.place.now.items) c.deref-part-items.result.now c.loop-part.part-index _ (parts_of c.args.name.now) c.loop-part-test.false c.loop-part.invariant
    (ap (map (λ part. part.now)) c.deref-part-items.ensures.value ∙ c.in_ok-parts.ensures)
