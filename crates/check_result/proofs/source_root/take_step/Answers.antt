use Rattle.std.proofs.Common.{ap, ◌∙◌, map, sym, [], ◌∷◌}
use Rattle.std.proofs.lemmas.List.{map-append}
use Rattle.check_result.proofs.Walked.{step-name}
use Rattle.check_result.proofs.source_root.take_step.Goals as goal

pub returns-in_ok-push-in_default : goal.returns-in_ok-push-in_default
returns-in_ok-push-in_default c =
    ap (map (λ part. part.now)) c.in_ok-push-in_default.ensures.items
    ∙ map-append (λ part. part.now) c.args.place.now.items (c.args.part ∷ [])
    ∙ sym (step-name (map (λ part. part.now) c.args.place.now.items) c.args.part.now c.in_default.not-text c.in_default.not-empty c.in_default.not-text-2)
