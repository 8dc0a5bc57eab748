use Rattle.std.proofs.Common.{◌≡◌, ◌∷◌, ◌+◌, suc, arith, subst}
use Rattle.verdict_merge.specs.Contents.{AreGoingFrom, parts_held}
use Rattle.verdict_merge.proofs.Steps.{claimed_part, claims, first_left, room_to_claim}
use Rattle.verdict_merge.proofs.board.Board.claim.Goals as goal

pub push_reserved-requires : goal.push_reserved-requires
push_reserved-requires g c =
    let was : c.self.inside.left.items ≡ c.in_ok-piece.piece ∷ c.pop_front.new.self.items = c.in_ok-piece.ensures.items in
    let board = rw was at c.self.invariant.4 in
    let room = room_to_claim g.J.Naming.round (parts_held c.pop_front.new.self.items) c.self.inside.claimed c.self.inside.log.items c.self.inside.places.items c.in_ok-piece.piece.part board in
    let k = c.self.inside.log.ok in omega (arith, room, c.self.invariant.2, k.0)

pub invariant_of-result : goal.invariant_of-result
invariant_of-result g c =
    let was : c.self.inside.left.items ≡ c.in_ok-piece.piece ∷ c.pop_front.new.self.items = c.in_ok-piece.ensures.items in
    let board = rw was at c.self.invariant.4 in
    let going = rw was at c.self.invariant.3 in (
      (first_left g.J.Naming.round (parts_held c.pop_front.new.self.items) c.self.inside.claimed c.self.inside.log.items c.self.inside.places.items c.in_ok-piece.piece.part board).within,
      claimed_part g.J.Naming.round (parts_held c.pop_front.new.self.items) c.self.inside.claimed c.self.inside.log.items c.self.inside.places.items c.in_ok-piece.piece.part board,
      going.0,
      c.self.invariant.0,
      c.self.invariant.1,
    )

pub invariant_of-self-2 : goal.invariant_of-self-2
invariant_of-self-2 g c =
    let round = g.J.Naming.round in
    let left = c.pop_front.new.self.items in
    let piece = c.in_ok-piece.piece in
    let was : c.self.inside.left.items ≡ piece ∷ left = c.in_ok-piece.ensures.items in
    let board = rw was at c.self.invariant.4 in
    let one_more : suc c.self.inside.claimed ≡ c.self.inside.claimed + 1 = omega arith in
    let going = rw was at c.self.invariant.3 in (
      c.self.invariant.0,
      c.self.invariant.1,
      rw c.push_reserved.ensures.capacity c.self.invariant.2,
      subst (λ number. AreGoingFrom round.configuration round.first number left) one_more going.1,
      rw c.push_reserved.ensures.items (claims round (parts_held left) c.self.inside.claimed c.self.inside.log.items c.self.inside.places.items piece.part c.args.worker board),
    )

pub returns-clause-piece : goal.returns-clause-piece
returns-clause-piece g c =
    let was : c.self.inside.left.items ≡ c.in_ok-piece.piece ∷ c.pop_front.new.self.items = c.in_ok-piece.ensures.items in
    let board = rw was at c.self.invariant.4 in
    claimed_part g.J.Naming.round (parts_held c.pop_front.new.self.items) c.self.inside.claimed c.self.inside.log.items c.self.inside.places.items c.in_ok-piece.piece.part board
