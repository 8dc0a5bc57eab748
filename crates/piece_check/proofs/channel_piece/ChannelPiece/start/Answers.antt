-- The times of cold cores are all 0.
use Rattle.std.proofs.Common.{ℕ, List, ap, sym}
use Rattle.apex_machine.specs.Pieces.{ChannelPart}
use Rattle.apex_machine.specs.State.{cold_channel}
use Rattle.piece_check.proofs.Parting.{cold_times}
use Rattle.piece_check.proofs.channel_piece.ChannelPiece.start.Goals as goal

pub returns-clause-part : goal.returns-clause-part
returns-clause-part c =
    let config = c.args.config.now in
    rw (c.in_ok-channel.ensures.number, c.in_ok-channel.ensures.cold, c.new-times.ensures, c.cores.ensures.value)
    (ap (λ (times : List ℕ). ChannelPart c.args.number times (cold_channel config c.args.number)) (sym (cold_times config.cores)))
