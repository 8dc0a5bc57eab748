-- What a record gives by what is seen of a piece after it.
use Rattle.std.proofs.Common.{◌∙◌, ◌++◌, ap, sym}
use Rattle.std.proofs.lemmas.Result.{on_ok_weaker}
use Rattle.run_numbers.specs.Run.{left_in_partition}
use Rattle.run_numbers.proofs.Added.{none_added}
use Rattle.run_numbers.proofs.Pieces.{after_channel, after_module, after_partition, not_left}
use Rattle.run_numbers.proofs.numbers.observe_after.Goals as goal

pub returns-in-Module : goal.returns-in-Module
returns-in-Module c =
    none_added c.args.observed.now.items
    ∙ ap (λ list. c.args.observed.now.items ++ list) (after_module c.args.piece.now.part _ c.args.ordered.now c.in-Module.ensures)

pub returns-in-Call : goal.returns-in-Call
returns-in-Call c =
    let part = c.args.piece.now.part in
    on_ok_weaker c.observe_object.result
    (λ is. is
    ∙ ap (λ body. c.args.observed.now.items ++ left_in_partition c.in-Partition.number c.in-Partition.state.now body) (sym c.in-Call.is)
    ∙ ap (λ list. c.args.observed.now.items ++ list) (after_partition part c.in-Partition.number _ c.in-Partition.state c.args.ordered.now c.in-Partition.ensures)) c.observe_object.ensures

pub returns-in_default : goal.returns-in_default
returns-in_default c =
    not_left c.in-Partition.number c.in-Partition.state.now c.args.ordered.now.rec.body c.args.observed.now.items c.in_default.not-Call
    ∙ ap (λ list. c.args.observed.now.items ++ list) (after_partition c.args.piece.now.part c.in-Partition.number _ c.in-Partition.state c.args.ordered.now c.in-Partition.ensures)

pub returns-in-Channel : goal.returns-in-Channel
returns-in-Channel c =
    on_ok_weaker c.observe_queue.result
    (λ is. is ∙ ap (λ list. c.args.observed.now.items ++ list) (after_channel c.args.piece.now.part _ c.in-Channel.channel c.args.ordered.now c.in-Channel.ensures)) c.observe_queue.ensures
