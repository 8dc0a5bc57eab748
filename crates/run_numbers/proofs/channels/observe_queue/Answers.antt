-- What a record gives to the queue that it uses.
use Rattle.std.proofs.Common.{◌∙◌, ◌++◌, ap}
use Rattle.std.proofs.lemmas.Result.{on_ok_weaker}
use Rattle.apex_types.specs.declared.record.Body.TheVariants.{Arrive, Call, Depart}
use Rattle.channel.specs.Kinds.{destination_in, size_in, source_in}
use Rattle.run_numbers.specs.Channels.{used_after}
use Rattle.run_numbers.proofs.Using.{call_in_queue, content_is, crossing_in_queue, no_queue, receivers_are, senders_are}
use Rattle.run_numbers.proofs.channels.observe_queue.Goals as goal

pub returns-in_default : goal.returns-in_default
returns-in_default c = no_queue c.args.channel.now.number c.args.channel.now.channel c.args.ordered.now.rec.body c.args.observed.now.items c.in_default.ensures.none

pub returns-in-Call : goal.returns-in-Call
returns-in-Call c =
    let held = c.args.channel.now in
    let queue = c.in-Some.queue.now in
    let call = c.in-Call.call in
    let settings = held.settings in
    let is = c.in-Some.ensures.held in
    rw c.in-Call.is
    (on_ok_weaker c.observe_used.result
    (λ so. so ∙ ap (λ list. c.args.observed.now.items ++ list)
    (call_in_queue c.number-number.result held.channel queue.messages call (content_is held (size_in settings) (source_in settings) (destination_in settings) queue is)
    ∙ ap (λ one. used_after one held.channel (Call call)) c.number-number.ensures))
    (c.observe_used.ensures held.channel (senders_are held (size_in settings) (source_in settings) (destination_in settings) queue is)
    (receivers_are held (size_in settings) (source_in settings) (destination_in settings) queue is)))

pub returns-in-Arrive : goal.returns-in-Arrive
returns-in-Arrive c =
    let held = c.args.channel.now in
    let queue = c.in-Some.queue.now in
    let crossing = c.in-Arrive.crossing in
    let settings = held.settings in
    rw c.in-Arrive.is
    (on_ok_weaker c.observe_crossed.result
    (λ so. so ∙ ap (λ list. c.args.observed.now.items ++ list)
    (crossing_in_queue c.number-number.result held.channel queue.messages crossing
    (content_is held (size_in settings) (source_in settings) (destination_in settings) queue c.in-Some.ensures.held)
    ∙ ap (λ one. used_after one held.channel (Arrive crossing)) c.number-number.ensures)) c.observe_crossed.ensures)

pub returns-in-Depart : goal.returns-in-Depart
returns-in-Depart c =
    let held = c.args.channel.now in
    let queue = c.in-Some.queue.now in
    let crossing = c.in-Depart.crossing in
    let settings = held.settings in
    rw c.in-Depart.is
    (on_ok_weaker c.observe_crossed-in-Depart.result
    (λ so. so ∙ ap (λ list. c.args.observed.now.items ++ list)
    (crossing_in_queue c.number-number.result held.channel queue.messages crossing
    (content_is held (size_in settings) (source_in settings) (destination_in settings) queue c.in-Some.ensures.held)
    ∙ ap (λ one. used_after one held.channel (Depart crossing)) c.number-number.ensures)) c.observe_crossed-in-Depart.ensures)
