-- What the channel shows of a record is so whichever configuration it has.
use Rattle.std.proofs.Common.{rules}
use Rattle.apex_machine.specs.Pieces.{time_at}
use Rattle.piece_check.proofs.channel_piece.ChannelPiece.evidence.Goals as goal

pub returns-in-Chan : goal.returns-in-Chan
returns-in-Chan c = λ configuration configured. search (rules, c.shown_through.ensures configuration configured)

pub returns-in-Arrive : goal.returns-in-Arrive
returns-in-Arrive c = λ configuration configured.
    let piece = c.args.self.now in
    rw c.in-Arrive.is (c.shown_of_arrival.ensures configuration (time_at piece.times c.args.ordered.now.core) c.in-Arrive.field-0.message configured)

pub returns-in-Depart : goal.returns-in-Depart
returns-in-Depart c = λ configuration configured.
    let piece = c.args.self.now in
    rw c.in-Depart.is (c.shown_of_departure.ensures configuration (time_at piece.times c.args.ordered.now.core) configured)
