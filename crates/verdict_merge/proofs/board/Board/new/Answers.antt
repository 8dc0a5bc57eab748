use Rattle.std.proofs.Common.{◌≡◌, arith, length, ap, subst}
use Rattle.std.proofs.lemmas.List.{length-map}
use Rattle.verdict_merge.specs.Contents.{content_of, parts_held}
use Rattle.verdict_merge.proofs.Steps.{empty_board}
use Rattle.verdict_merge.proofs.board.Board.new.Goals as goal

pub invariant_of-result : goal.invariant_of-result
invariant_of-result g c =
    let round = g.J.Naming.round in
    let held = c.round.inside.pieces.items in
    let whole : length (parts_held held) ≡ length held = length-map held (λ piece. piece.part) in
    let parts : parts_held held ≡ round.parts = ap (λ content. content.parts) c.round.invariant.0 in
    let same = ap length parts in
    let k = c.round.inside.pieces.ok in (
      subst (λ all. content_of c.round.inside.lent g.J.Naming.round.relations all ≡ round) parts c.round.invariant.0,
      c.round.invariant.1,
      (let room = c.in-Ok.ensures.room in let n = c.len.ensures in grind arith),
      rw c.from_vec.ensures.items c.round.invariant.2,
      rw (c.from_vec.ensures.items, c.in-Ok.ensures.none, parts)
          (empty_board round c.in-Ok-empty_places.places.items (let count = c.in-Ok-empty_places.ensures.count in let n = c.len.ensures in grind arith) c.in-Ok-empty_places.ensures.none),
    )
