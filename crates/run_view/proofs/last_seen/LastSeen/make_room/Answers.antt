-- Room for one piece more leaves what is seen.
use Rattle.std.proofs.Common.{◌∙◌, ◌∷◌, [], List, get_or, length, map, ap, arith, length-append}
use Rattle.run_view.specs.declared.last_seen.SeenPiece.{SeenPiece}
use Rattle.run_view.specs.Seen.{nothing_seen, piece_seen}
use Rattle.run_view.proofs.Looks.{room_is_unseen}
use Rattle.run_view.proofs.last_seen.LastSeen.make_room.Goals as goal

pub room-preserved : goal.room-preserved
room-preserved c =
    let pieces = c.room.self.pieces.items in
    let more = c.in_ok-push.ensures.items in
    record {
      room = omega (arith, c.room.invariant.room, ap length more, length-append pieces (c.new.result ∷ []));
      seen = λ number.
          ap (λ (list : List SeenPiece). get_or (map piece_seen list) number nothing_seen) more
          ∙ room_is_unseen pieces c.new.result number c.new.ensures
          ∙ c.room.invariant.seen number;
    }
