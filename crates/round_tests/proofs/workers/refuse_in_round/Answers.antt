use Rattle.std.proofs.Common.{◌∙◌, [], sym, ap, arith}
use Rattle.verdict_merge.specs.Contents.{content_of}
use Rattle.verdict_merge.proofs.RoundPieces.{all_going, same_parts}
use Rattle.round_tests.proofs.workers.refuse_in_round.Goals as goal

pub refuse_all-requires-clause-other_named : goal.refuse_all-requires-clause-other_named
refuse_all-requires-clause-other_named c =
    let one = c.in-Ok.ensures in
    let other = c.in-Ok-start_pieces.ensures in
    ap (content_of c.new-lent.result [])
    (same_parts c.in-Ok-start_pieces.others.items c.in-Ok.pieces.items (other.going.whole ∙ sym one.going.whole)
    (λ number within. other.cold number (omega (arith, within, other.going.whole)) ∙ sym (one.cold number (omega (arith, within, other.going.whole)))))

pub refuse_all-requires-clause-going : goal.refuse_all-requires-clause-going
refuse_all-requires-clause-going c =
    rw (c.new-lent.ensures.config, c.new-lent.ensures.first) (all_going _ 0 c.in-Ok.pieces.items c.in-Ok.ensures.going)

pub refuse_all-requires-clause-other_going : goal.refuse_all-requires-clause-other_going
refuse_all-requires-clause-other_going c =
    rw (c.new-lent.ensures.config, c.new-lent.ensures.first) (all_going _ 0 c.in-Ok-start_pieces.others.items c.in-Ok-start_pieces.ensures.going)
