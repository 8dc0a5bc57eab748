-- The channel's settings are those of the configuration.
use Rattle.std.proofs.Common.{ap, sym, ◌∙◌}
use Rattle.piece_check.specs.declared.evidence.Evidence.TheVariants as evidence
use Rattle.piece_check.proofs.Shown.{from_outside_is, size_is}
use Rattle.piece_check.proofs.channel_piece.ChannelPiece.shown_of_arrival.Goals as goal

pub returns-in-Chan : goal.returns-in-Chan
returns-in-Chan c = λ configuration now message configured.
    let held = c.args.self.now.channel in
    rw (c.in-Chan.is, from_outside_is configuration held.number held.settings configured, ← c.is_from_outside.ensures) c.shown_end.ensures

pub returns-in-Data : goal.returns-in-Data
returns-in-Data c = λ configuration now message configured.
    let held = c.args.self.now.channel in
    rw c.in-Data.is (ap (λ size. evidence.Size size) (c.size.ensures ∙ sym (size_is configuration held.number held.settings configured)))

pub returns-in-Woken : goal.returns-in-Woken
returns-in-Woken c = λ configuration now message configured. rw c.in-Woken.is (c.answer_to_arrival.ensures configuration now message configured)
