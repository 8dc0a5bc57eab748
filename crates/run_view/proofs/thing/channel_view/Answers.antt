use Rattle.std.proofs.Common.{Option, subst}
use Rattle.std.proofs.lemmas.Result.{IfOk-weaker}
use Rattle.apex_machine.specs.State.{Stamped}
use Rattle.run_view.specs.declared.thing.ThingView.{ThingView}
use Rattle.run_view.specs.Things.{ShowsSample}
use Rattle.run_view.proofs.Showing.{queuing_shown, sampling_shown}
use Rattle.run_view.proofs.thing.channel_view.Goals as goal

pub returns-in-Some : goal.returns-in-Some
returns-in-Some c = IfOk-weaker c.queue_view.result _ _ (λ view shown. queuing_shown _ _ _ _ _ c.args.channel.now view c.in-Some.ensures.held shown) c.queue_view.ensures

pub returns : goal.returns
returns c =
    let view : ThingView = record { name = c.new.result; contents = c.in_ok-sampled.field-0; senders = c.new-2.result; waiters = c.new-3.result } in
    sampling_shown c.args.channel.now view c.in_default.ensures.none c.new.ensures.items
    (subst (λ (last : Option Stamped). ShowsSample last c.in_ok-sampled.field-0) c.written.ensures c.in_ok-sampled.ensures) c.new-2.ensures.items c.new-3.ensures.items
