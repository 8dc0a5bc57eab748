use Rattle.std.proofs.Common.{◌∙◌, ℕ, List, Some, None, subst}
use Rattle.apex_machine.specs.State.{item_at}
use Rattle.run_view.proofs.Showing.{at_table, buffer_shown, shows_none, shows_some}
use Rattle.run_view.specs.Things.{ShowsBuffer, ShowsQueued}
use Rattle.run_view.proofs.thing.buffer_view.Goals as goal

pub returns-in_default : goal.returns-in_default
returns-in_default c =
    shows_none ShowsBuffer (item_at c.args.state.now.buffers c.args.number)
    (at_table c.args.state.now.buffers c.buffers.result.now c.args.number None c.in_default.ensures c.buffers.ensures)

pub returns : goal.returns
returns c =
    let buffer = c.in-Some.buffer.now in
    let there = at_table c.args.state.now.buffers c.buffers.result.now c.args.number (Some buffer) c.in-Some.ensures c.buffers.ensures in
    let shown = subst (λ (name : List ℕ). ShowsQueued name c.queue.result.now c.in_ok-queue_view.field-0) (c.as_bytes.ensures ∙ c.name.ensures) c.in_ok-queue_view.ensures in
    shows_some ShowsBuffer buffer (item_at c.args.state.now.buffers c.args.number) c.in_ok-queue_view.field-0 there
    (buffer_shown buffer.name buffer.size c.queue.result.now buffer c.in_ok-queue_view.field-0 c.queue.ensures.queue c.queue.ensures.receivers shown)
