use Rattle.std.proofs.Common.{◌∙◌, Some, None}
use Rattle.apex_machine.specs.State.{item_at}
use Rattle.run_view.proofs.Showing.{at_table, in_any_turn, shows_none, shows_some}
use Rattle.run_view.specs.Things.{ShowsEvent}
use Rattle.run_view.proofs.thing.event_view.Goals as goal

pub returns-in_default : goal.returns-in_default
returns-in_default c =
    shows_none ShowsEvent (item_at c.args.state.now.events c.args.number)
    (at_table c.args.state.now.events c.events.result.now c.args.number None c.in_default.ensures c.events.ensures)

pub returns : goal.returns
returns c =
    let event = c.in-Some.event.now in
    let there = at_table c.args.state.now.events c.events.result.now c.args.number (Some event) c.in-Some.ensures c.events.ensures in
    let named = c.in_ok-from_slice.ensures.items ∙ c.as_bytes.ensures ∙ c.name.ensures in
    shows_some ShowsEvent event (item_at c.args.state.now.events c.args.number) _ there
    (named, cc c.is_up.ensures, c.new.ensures.items, in_any_turn c.waiters.result.now event.waiters _ c.waiters.ensures c.in_ok-waiters_of.ensures)
