-- The channel's settings are those of the configuration.
use Rattle.piece_check.proofs.Shown.{departure_shown, to_outside_is}
use Rattle.piece_check.proofs.channel_piece.ChannelPiece.shown_of_departure.Goals as goal

pub returns-in-Chan : goal.returns-in-Chan
returns-in-Chan c = λ configuration now configured.
    let held = c.args.self.now.channel in
    rw (c.in-Chan.is, to_outside_is configuration held.number held.settings configured, ← c.is_to_outside.ensures) c.shown_end.ensures

pub returns-in-Data : goal.returns-in-Data
returns-in-Data c = λ configuration now configured.
    let held = c.args.self.now.channel in
    departure_shown configuration now held.number held.channel c.args.cause c.shown_departing.result c.in-Data.is (c.shown_departing.ensures configuration now configured)
