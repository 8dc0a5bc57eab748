use Rattle.std.proofs.Common.{arith}
use Rattle.piece_check.proofs.Parting.{time_at_is}
use Rattle.piece_check.proofs.channel_piece.ChannelPiece.pass_by.Goals as goal

pub advance-requires-clause-time : goal.advance-requires-clause-time
advance-requires-clause-time c =
    let core = c.args.ordered.now.core in
    omega (arith, c.requires.place, c.requires.holds_before.times core, time_at_is c.args.self.now.times core)
