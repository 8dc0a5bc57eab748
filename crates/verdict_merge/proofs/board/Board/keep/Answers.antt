use Rattle.std.proofs.Common.{◌<◌, arith, length, subst}
use Rattle.verdict_merge.proofs.Steps.{posts, room_to_post}
use Rattle.verdict_merge.proofs.board.Board.keep.Goals as goal

pub push_reserved-requires : goal.push_reserved-requires
push_reserved-requires g c =
    let within : c.args.done.number < length g.J.Naming.round.parts = subst (λ number. number < length g.J.Naming.round.parts) c.number-number.ensures.number c.number-number.ensures.within in
    let room = room_to_post _ _ _ _ _ c.args.done.number c.args.done.judged c.self.invariant.4 (rw c.self.view_is c.requires.first) within in
    let k = c.self.inside.log.ok in omega (arith, room, c.self.invariant.2, k.0)

pub invariant_of-self : goal.invariant_of-self
invariant_of-self g c =
    let within : c.args.done.number < length g.J.Naming.round.parts = subst (λ number. number < length g.J.Naming.round.parts) c.number-number.ensures.number c.number-number.ensures.within in (
      c.self.invariant.0,
      c.self.invariant.1,
      rw c.push_reserved.ensures.capacity c.self.invariant.2,
      c.self.invariant.3,
      rw (c.replace.ensures.after, c.push_reserved.ensures.items, c.worker.ensures, c.number-number.ensures.number)
          (posts _ _ _ _ _ c.args.done.number c.args.done.worker c.into_judged.result c.self.invariant.4 (rw c.self.view_is c.requires.claimed) (rw c.self.view_is c.requires.first) c.into_judged.ensures.judged within),
    )
