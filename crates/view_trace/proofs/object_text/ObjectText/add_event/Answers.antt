use Rattle.std.proofs.Common.{◌≡◌, ℕ, List, ◌++◌, ap, sym, ◌∙◌}
use Rattle.std.specs.Prelude.{codes, decimal}
use Rattle.std.proofs.lemmas.Result.{on_ok_weaker}
use Rattle.view_trace.specs.Event.{stamp_of}
use Rattle.view_trace.specs.ObjectText.{text_of}
use Rattle.view_trace.specs.Parts.{category_part, end_part, id_of, id_part, name_part, numbered, phase_head, stamp_part}
use Rattle.view_trace.proofs.Parts.{event_is, then_put}
use Rattle.view_trace.proofs.object_text.ObjectText.add_event.Goals as goal

pub returns : goal.returns
returns c =
    let event = c.args.event.now in
    let r = c.add_end.result in
    let start = text_of c.args.self.now in
    let named = text_of c.add_name.new.self in
    let sorted = text_of c.add_category.new.self in
    let phased = text_of c.add_phase.new.self in
    let processed = text_of c.add_digits.new.self in
    let threaded = text_of c.add_number.new.self in
    let stamped = text_of c.add_stamp.new.self in
    let ended = text_of c.add_end.new.self in
    let end = end_part c.place_shown.result event.arguments in
    let stamp = stamp_part c.stamp.result in
    let thread = numbered (codes ",\"tid\":") event.track.thread in
    let process = decimal event.track.process in
    let phase = phase_head event.phase ++ id_part (id_of event.phase) in
    let category = category_part event.category in
    let from_thread = then_put r threaded stamped ended stamp end c.in_ok-add_stamp.ensures c.add_end.ensures in
    let from_process = then_put r processed threaded ended thread (stamp ++ end) c.in_ok-add_number.ensures from_thread in
    let from_phase = then_put r phased processed ended process (thread ++ (stamp ++ end)) c.in_ok-add_digits.ensures from_process in
    let from_category = then_put r sorted phased ended phase (process ++ (thread ++ (stamp ++ end))) c.in_ok-add_phase.ensures from_phase in
    let from_name = then_put r named sorted ended category (phase ++ (process ++ (thread ++ (stamp ++ end)))) c.in_ok-add_category.ensures from_category in
    let from_start = then_put r start named ended (name_part event.name) (category ++ (phase ++ (process ++ (thread ++ (stamp ++ end))))) c.in_ok-add_name.ensures from_name in
    let before : List ℕ → List ℕ = λ l. start ++ (name_part event.name ++ (category ++ (phase ++ (process ++ (thread ++ l))))) in
    on_ok_weaker r
    (λ (all : ended ≡ before (stamp ++ end)).
    all
    ∙ ap (λ s. before (stamp_part s ++ end)) c.stamp.ensures
    ∙ ap (λ p. before (stamp_part (stamp_of c.args.axis event.moment) ++ end_part p event.arguments)) c.place_shown.ensures
    ∙ ap (λ l. start ++ l) (sym (event_is c.args.axis event)))
    from_start
