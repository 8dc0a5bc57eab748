use Rattle.std.proofs.Common.{◌∙◌, Some, None}
use Rattle.apex_machine.specs.State.{item_at}
use Rattle.run_view.proofs.Showing.{at_table, in_turn_as, shows_none, shows_some}
use Rattle.run_view.specs.Things.{ShowsMutex}
use Rattle.run_view.proofs.thing.mutex_view.Goals as goal

pub returns-in_default : goal.returns-in_default
returns-in_default c =
    shows_none ShowsMutex (item_at c.args.state.now.mutexes c.args.number)
    (at_table c.args.state.now.mutexes c.mutexes.result.now c.args.number None c.in_default.ensures c.mutexes.ensures)

pub returns : goal.returns
returns c =
    let mutex = c.in-Some.mutex.now in
    let there = at_table c.args.state.now.mutexes c.mutexes.result.now c.args.number (Some mutex) c.in-Some.ensures c.mutexes.ensures in
    let named = c.in_ok-from_slice.ensures.items ∙ c.as_bytes.ensures ∙ c.name.ensures in
    shows_some ShowsMutex mutex (item_at c.args.state.now.mutexes c.args.number) _ there
    (named, cc (c.owner.ensures, c.count.ensures, c.priority.ensures), c.new.ensures.items, in_turn_as c.waiters.result.now mutex.discipline mutex.waiters _ c.waiters.ensures.discipline c.waiters.ensures.entries c.in_ok-waiters_of.ensures)
