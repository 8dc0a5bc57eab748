-- What a record gives by what is seen of a piece before it.
use Rattle.std.proofs.Common.{◌∙◌, ◌++◌, ap}
use Rattle.std.proofs.lemmas.Result.{on_ok_weaker}
use Rattle.run_numbers.proofs.Pieces.{before_channel, before_module, before_partition}
use Rattle.run_numbers.proofs.numbers.observe_before.Goals as goal

pub returns-in-Module : goal.returns-in-Module
returns-in-Module c =
    on_ok_weaker c.observe_cores.result
    (λ is. is ∙ ap (λ list. c.args.observed.now.items ++ list) (before_module c.args.config.now c.args.piece.now.part c.in-Module.clock c.args.ordered.now c.in-Module.ensures)) c.observe_cores.ensures

pub returns-in-Partition : goal.returns-in-Partition
returns-in-Partition c =
    on_ok_weaker c.observe_partition.result
    (λ is. is
    ∙ ap (λ list. c.args.observed.now.items ++ list)
    (before_partition c.args.config.now c.args.piece.now.part c.in-Partition.number c.in-Partition.clock c.in-Partition.state c.args.ordered.now c.in-Partition.ensures)) c.observe_partition.ensures

pub returns-in-Channel : goal.returns-in-Channel
returns-in-Channel c =
    on_ok_weaker c.observe_channel.result
    (λ is. is
    ∙ ap (λ list. c.args.observed.now.items ++ list)
    (before_channel c.args.config.now c.args.piece.now.part c.in-Channel.times c.in-Channel.channel c.args.ordered.now c.in-Channel.ensures)) c.observe_channel.ensures
