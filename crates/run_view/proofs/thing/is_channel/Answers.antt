use Rattle.std.proofs.Common.{◌∙◌, ap, nat_eq}
use Rattle.run_view.proofs.Showing.{holds_channel}
use Rattle.run_view.proofs.thing.is_channel.Goals as goal

pub returns-in-Channel : goal.returns-in-Channel
returns-in-Channel c =
    ap (λ one. nat_eq one c.number-in-Channel.result) c.number.ensures ∙ ap (λ one. nat_eq c.in-Channel.number one) c.number-in-Channel.ensures
    ∙ holds_channel c.args.piece.now.part c.in-Channel.number c.args.channel c.in-Channel.ensures
