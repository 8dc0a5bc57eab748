use Rattle.std.proofs.Common.{◌∙◌, Some, None}
use Rattle.apex_machine.specs.State.{item_at}
use Rattle.run_view.proofs.Showing.{at_table, in_turn_as, shows_none, shows_some}
use Rattle.run_view.specs.Things.{ShowsSemaphore}
use Rattle.run_view.proofs.thing.semaphore_view.Goals as goal

pub returns-in_default : goal.returns-in_default
returns-in_default c =
    shows_none ShowsSemaphore (item_at c.args.state.now.semaphores c.args.number)
    (at_table c.args.state.now.semaphores c.semaphores.result.now c.args.number None c.in_default.ensures c.semaphores.ensures)

pub returns : goal.returns
returns c =
    let semaphore = c.in-Some.semaphore.now in
    let there = at_table c.args.state.now.semaphores c.semaphores.result.now c.args.number (Some semaphore) c.in-Some.ensures c.semaphores.ensures in
    let named = c.in_ok-from_slice.ensures.items ∙ c.as_bytes.ensures ∙ c.name.ensures in
    shows_some ShowsSemaphore semaphore (item_at c.args.state.now.semaphores c.args.number) _ there
    (named, cc (c.value.ensures, c.maximum.ensures), c.new.ensures.items, in_turn_as c.waiters.result.now semaphore.discipline semaphore.waiters _ c.waiters.ensures.discipline c.waiters.ensures.entries c.in_ok-waiters_of.ensures)
