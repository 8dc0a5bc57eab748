-- What a call gives that goes through the channel.
use Rattle.std.proofs.Common.{◌∙◌, ◌++◌, ◌∷◌, [], length, sym, ap}
use Rattle.std.proofs.lemmas.Result.{on_ok_weaker}
use Rattle.apex_machine.specs.After.{is_channel}
use Rattle.run_numbers.specs.declared.figure.Figure.TheVariants.{Messages}
use Rattle.run_numbers.specs.declared.figure.Thing.TheVariants as thing
use Rattle.run_numbers.specs.declared.observation.Observation.TheVariants.{Value}
use Rattle.run_numbers.specs.Channels.{joined_queue}
use Rattle.run_numbers.proofs.Added.{then_more}
use Rattle.run_numbers.proofs.Given.{is_given}
use Rattle.run_numbers.proofs.channels.observe_used.Goals as goal

pub returns : goal.returns
returns c = λ channel sends receives.
    let number = c.args.number in
    let call = c.args.call.now in
    let old = c.args.observed.now.items in
    let held = Value (Messages (thing.Channel number)) (length c.args.queue.now.messages) in
    let joined = joined_queue number channel call in
    on_ok_weaker c.observe_waiters.result
    (λ is. is ∙ ap (λ list. old ++ list) (is_given (is_channel number call.claim.chan) (held ∷ joined) (sym c.is_through.ensures ∙ c.if-not-is_through.false)))
    (then_more old c.observe_messages.new.observed.items c.observe_waiters.new.observed.items (held ∷ []) joined c.observe_waiters.result c.in_ok-observe_messages.ensures
    (c.observe_waiters.ensures channel sends receives))
