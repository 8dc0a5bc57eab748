-- Only a sampling channel has no queue.
use Rattle.std.proofs.Common.{ap}
use Rattle.channel.specs.Held.{Held}
use Rattle.piece_check.proofs.Shown.{nothing_departs, queue_departs}
use Rattle.piece_check.proofs.channel_piece.ChannelPiece.shown_departing.Goals as goal

pub returns-in-Some-answer_to_departure : goal.returns-in-Some-answer_to_departure
returns-in-Some-answer_to_departure c = λ configuration now configured.
    let held = c.args.self.now.channel in
    queue_departs held.channel.content _ _ c.in-Some-answer_to_departure.given (ap (λ (one : Held). one.channel.content) c.in-Some.ensures.held)
    (c.in-Some-answer_to_departure.ensures.given configuration now configured)

pub returns-in-None : goal.returns-in-None
returns-in-None c = λ configuration now configured. nothing_departs c.args.self.now.channel.channel.content _ c.in-None.ensures.none

pub returns-in_default : goal.returns-in_default
returns-in_default c = λ configuration now configured. nothing_departs c.args.self.now.channel.channel.content _ c.in_default.ensures.none
