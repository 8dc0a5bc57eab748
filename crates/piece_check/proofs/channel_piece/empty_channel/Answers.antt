-- The settings of a queuing channel are those that are configured.
use Rattle.std.proofs.Common.{◌≡◌, ◌∙◌, Some, sym, ap}
use Rattle.std.proofs.lemmas.Result.{IfOk-weaker}
use Rattle.module_config.specs.Ports.{kind_of}
use Rattle.module_config.specs.declared.port.ChannelKind.TheVariants.{Queuing}
use Rattle.piece_check.proofs.Configuring.{queuing_said}
use Rattle.piece_check.proofs.channel_piece.empty_channel.Goals as goal

pub returns-in-Queuing-clause-configured : goal.returns-in-Queuing-clause-configured
returns-in-Queuing-clause-configured c =
    let made = c.in-Queuing in
    let kind : kind_of c.args.config.now c.args.number ≡ Some (Queuing made.size made.capacity made.sending made.receiving made.source made.destination) =
    sym c.channel_kind.ensures ∙ c.in-Some.is ∙ ap (λ one. Some one) made.is in
    IfOk-weaker c.queuing.result _ _
    (λ channel is. rw is (queuing_said c.args.config.now c.args.number _ c.keeps_limits.ensures.consistent kind))
    c.queuing.ensures
