-- A channel is its part.
use Rattle.run_view.proofs.Showing.{channel_in}
use Rattle.run_view.proofs.thing.whole_view.Goals as goal

pub returns-in_ok-channel_view-in-Channel : goal.returns-in_ok-channel_view-in-Channel
returns-in_ok-channel_view-in-Channel c =
    λ chosen. channel_in c.args.piece.now.part _ c.in-Channel.channel chosen c.in_ok-channel_view-in-Channel.field-0 c.in-Channel.ensures c.in_ok-channel_view-in-Channel.ensures
