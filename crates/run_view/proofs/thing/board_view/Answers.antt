use Rattle.std.proofs.Common.{◌∙◌, Some, None}
use Rattle.apex_machine.specs.State.{item_at}
use Rattle.run_view.proofs.Showing.{at_table, in_any_turn, shows_none, shows_some}
use Rattle.run_view.specs.Things.{ShowsBlackboard}
use Rattle.run_view.proofs.thing.board_view.Goals as goal

pub returns-in_default : goal.returns-in_default
returns-in_default c =
    shows_none ShowsBlackboard (item_at c.args.state.now.blackboards c.args.number)
    (at_table c.args.state.now.blackboards c.blackboards.result.now c.args.number None c.in_default.ensures c.blackboards.ensures)

pub returns : goal.returns
returns c =
    let board = c.in-Some.board.now in
    let there = at_table c.args.state.now.blackboards c.blackboards.result.now c.args.number (Some board) c.in-Some.ensures c.blackboards.ensures in
    let named = c.in_ok-from_slice.ensures.items ∙ c.as_bytes.ensures ∙ c.name.ensures in
    shows_some ShowsBlackboard board (item_at c.args.state.now.blackboards c.args.number) _ there
    (named, c.in_ok-shown.ensures ∙ c.message.ensures, c.new.ensures.items, in_any_turn c.readers.result.now board.readers _ c.readers.ensures c.in_ok-waiters_of.ensures)
